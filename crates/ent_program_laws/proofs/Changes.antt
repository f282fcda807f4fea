-- The rows that an UPDATE makes can be told.
use Rattle.std.proofs.Common.{◌≡◌, Bool, true, false, not, List, [], ◌∷◌, length, Option, Some, None, refl}
use Rattle.std.proofs.Common.{sym, ap, subst, ◌∙◌, arith, suc}
use Rattle.std.proofs.lemmas.List.{nil_from_length}
use Rattle.std.proofs.lemmas.Option.{same_Some}
use Rattle.std.specs.Prelude.{is_some, if◌then◌else◌}
use Rattle.std.specs.List.{AllByRecursion, list_all, filter_map, cons_option}
use Rattle.ent_lists.specs.Sets as set
use Rattle.ent_value.specs.declared.value.Value.{Value}
use Rattle.ent_tree.specs.declared.operand.Operand.{Operand}
use Rattle.ent_tree.specs.declared.statement.Assignment.{Assignment}
use Rattle.ent_print.specs.Spelling.{assignment_spelling, operand_spelling}
use Rattle.ent_semantics.specs.Change.{assigned_value, assigned_values, image, matched, unmatched, updated}
use Rattle.ent_semantics.specs.Database.{Rows, same_name}
use Rattle.ent_semantics.specs.Term.{SourceColumn, Worth, expression_value}
use Rattle.ent_semantics.proofs.EachRow.{EachRow, each_all_inserted, each_retained, to_ascending}
use Rattle.ent_history.specs.Parts.{IsRow, IsValue}
use Rattle.ent_program_laws.proofs.Read.{AreRead}
use Rattle.ent_program_laws.proofs.Values.{AreValues, all_there_are, expression_is_value}

-- ---- the image of a row

abbrev IsValueWhereThere : Option Value → Type 0
IsValueWhereThere there = (value : Value) → there ≡ Some value → IsValue value

module _ (worth : Operand → Value) (each : (operand : Operand) → AreRead (operand_spelling operand)
    → IsValue (worth operand)) where
  assigned_is_value : (assignments : List Assignment)
      → AllByRecursion (λ (assignment : Assignment). AreRead (assignment_spelling assignment)) assignments
      → (column : SourceColumn) (value : Value) → IsValue value
      → IsValueWhereThere (assigned_value worth assignments column value)
  assigned_is_value [] can column value is given e = subst IsValue (same_Some value given e) is
  assigned_is_value (assignment ∷ more) can column value is given e =
      by (same_name assignment.column.name column.column) e
      (assigned_is_value more can.1 column value is given)
    where
      by : (b : Bool)
          → (if b then expression_value worth assignment.expression else assigned_value worth more column value)
          ≡ Some given → (assigned_value worth more column value ≡ Some given → IsValue given) → IsValue given
      by true here rest =
          expression_is_value worth operand_spelling each assignment.expression can.0.1.1 given here
      by false behind rest = rest behind

  assigned_are_values : (assignments : List Assignment)
      → AllByRecursion (λ (assignment : Assignment). AreRead (assignment_spelling assignment)) assignments
      → (columns : List SourceColumn) (row : List Value) → AreValues row
      → AllByRecursion IsValueWhereThere (assigned_values worth assignments columns row)
  assigned_are_values assignments can [] row all = tt
  assigned_are_values assignments can (column ∷ columns) [] all = tt
  assigned_are_values assignments can (column ∷ columns) (value ∷ row) all = (
    assigned_is_value assignments can column value all.0,
    assigned_are_values assignments can columns row all.1,
  )

  assigned_as_many : (assignments : List Assignment) (columns : List SourceColumn) (row : List Value)
      → length row ≡ length columns → length (assigned_values worth assignments columns row) ≡ length row
  assigned_as_many assignments [] [] l = refl
  assigned_as_many assignments [] (value ∷ row) l = absurd (omega (arith, l))
  assigned_as_many assignments (column ∷ columns) [] l = refl
  assigned_as_many assignments (column ∷ columns) (value ∷ row) l =
      ap (λ n. suc n) (assigned_as_many assignments columns row (omega (arith, l)))

-- a row of a table: as many values as it has columns
abbrev pub IsRowUnder : List SourceColumn → List Value → Type 0
IsRowUnder columns row = IsRow row × (length row ≡ length columns)

module _ (worth : Worth Operand) (assignments : List Assignment) (columns : List SourceColumn)
    (each : (row : List Value) → AreValues row → (operand : Operand) → AreRead (operand_spelling operand)
    → IsValue (worth row operand))
    (can : AllByRecursion (λ (assignment : Assignment). AreRead (assignment_spelling assignment)) assignments) where
  abbrev image_of : List Value → Option (List Value)
  image_of row = image worth assignments columns row

  image_is_row : (row values : List Value) → IsRowUnder columns row → image_of row ≡ Some values → IsRow values
  image_is_row row values is e =
      let worth_here = worth row in
      let there = assigned_values worth_here assignments columns row in
      let all = all_there_are there values
      (assigned_are_values worth_here (each row is.0.1) assignments can columns row is.0.1) e in
      let many = assigned_as_many worth_here (each row is.0.1) assignments columns row is.1 in
      ((λ none. is.0.0 (nil_from_length row (sym (all.1 ∙ many) ∙ ap length none))), all.0)

  images_are_rows : (rows : List (List Value)) → AllByRecursion (IsRowUnder columns) rows
      → AllByRecursion IsRow (filter_map image_of rows)
  images_are_rows [] all = tt
  images_are_rows (row ∷ rows) all = by (image_of row) refl (images_are_rows rows all.1)
    where
      by : (there : Option (List Value)) → image_of row ≡ there → AllByRecursion IsRow (filter_map image_of rows)
          → AllByRecursion IsRow (cons_option there (filter_map image_of rows))
      by None is rest = rest
      by (Some values) is rest = (image_is_row row values all.0 is, rest)

  chosen : (enough : Bool) (rows after : Rows) → EachRow IsRow rows → (if enough then Some rows else None) ≡ Some after
      → EachRow IsRow after
  chosen true rows after each e = let same : rows ≡ after = cc in subst (EachRow IsRow) same each
  chosen false rows after each e = cc (e)

  pub updated_are_rows : (matches : List Value → Bool) (rows after : Rows) → EachRow (IsRowUnder columns) rows
      → updated matches image_of rows ≡ Some after → EachRow IsRow after
  updated_are_rows matches rows after all e =
      let old = set.ascending (matched matches rows) in
      let left = unmatched matches rows in
      let images = filter_map image_of old in
      let under = to_ascending (IsRowUnder columns) (matched matches rows)
      (each_retained (IsRowUnder columns) rows matches all) in
      let kept = each_retained (IsRowUnder columns) rows (λ row. not (matches row)) all in
      chosen (list_all (λ row. is_some (image_of row)) old) (set.insert_all left images) after
      (each_all_inserted IsRow left images (λ row there. (kept row there).0) (images_are_rows old under)) e
