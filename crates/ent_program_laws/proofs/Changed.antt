-- The rows that an UPDATE makes have values with the property.
use Rattle.std.proofs.Common.{◌≡◌, ℤ, Bool, true, false, not, List, [], ◌∷◌, Option, Some, None, refl, subst}
use Rattle.std.proofs.lemmas.Option.{same_Some}
use Rattle.std.specs.Prelude.{is_some, if◌then◌else◌}
use Rattle.std.specs.List.{AllByRecursion, list_all, filter_map, cons_option}
use Rattle.ent_lists.specs.Sets as set
use Rattle.ent_value.specs.declared.value.Value.{Value}
use Rattle.ent_value.specs.declared.value.Value.TheVariants.{Int}
use Rattle.ent_tree.specs.declared.operand.Operand.{Operand}
use Rattle.ent_tree.specs.declared.statement.Assignment.{Assignment}
use Rattle.ent_print.specs.Spelling.{assignment_spelling, operand_spelling}
use Rattle.ent_semantics.specs.Change.{assigned_value, assigned_values, image, matched, unmatched, updated}
use Rattle.ent_semantics.specs.Database.{Rows, same_name}
use Rattle.ent_semantics.specs.Term.{SourceColumn, Worth, expression_value}
use Rattle.ent_semantics.proofs.EachRow.{EachRow, each_all_inserted, each_retained, to_ascending}
use Rattle.ent_program_laws.specs.Values.{IsWritten}
use Rattle.ent_program_laws.proofs.Worth.{all_there_have, expression_has}

module _ (P : Value → Type 0) (numbers : (number : ℤ) → P (Int number)) (assignments : List Assignment)
    (writes : AllByRecursion (λ (assignment : Assignment).
    AllByRecursion (IsWritten P) (assignment_spelling assignment)) assignments) where
  -- a row has such values
  abbrev Has : List Value → Type 0
  Has row = AllByRecursion P row

  abbrev AreAssigned : List Assignment → Type 0
  AreAssigned all =
      AllByRecursion (λ (assignment : Assignment). AllByRecursion (IsWritten P) (assignment_spelling assignment)) all

  abbrev HasWhereThere : Option Value → Type 0
  HasWhereThere there = (value : Value) → there ≡ Some value → P value

  -- ---- the image of a row

  module _ (worth : Operand → Value)
      (each : (operand : Operand) → AllByRecursion (IsWritten P) (operand_spelling operand) → P (worth operand)) where
    assigned_has : (all : List Assignment) → AreAssigned all → (column : SourceColumn) (value : Value) → P value
        → HasWhereThere (assigned_value worth all column value)
    assigned_has [] writes column value has given e = subst P (same_Some value given e) has
    assigned_has (assignment ∷ more) writes column value has given e =
        by (same_name assignment.column.name column.column) e (assigned_has more writes.1 column value has given)
      where
        by : (b : Bool)
            → (if b then expression_value worth assignment.expression else assigned_value worth more column value)
            ≡ Some given → (assigned_value worth more column value ≡ Some given → P given) → P given
        by true here rest =
            expression_has P numbers worth operand_spelling each assignment.expression writes.0.1.1 given here
        by false behind rest = rest behind

    assigned_have : (columns : List SourceColumn) (row : List Value) → Has row
        → AllByRecursion HasWhereThere (assigned_values worth assignments columns row)
    assigned_have [] row all = tt
    assigned_have (column ∷ columns) [] all = tt
    assigned_have (column ∷ columns) (value ∷ row) all =
        (assigned_has assignments writes column value all.0, assigned_have columns row all.1)

  -- ---- the rows of a table

  module _ (worth : Worth Operand) (columns : List SourceColumn)
      (each : (row : List Value) → Has row → (operand : Operand)
      → AllByRecursion (IsWritten P) (operand_spelling operand) → P (worth row operand)) where
    abbrev image_of : List Value → Option (List Value)
    image_of row = image worth assignments columns row

    images_have : (rows : List (List Value)) → AllByRecursion Has rows → AllByRecursion Has (filter_map image_of rows)
    images_have [] all = tt
    images_have (row ∷ rows) all = by (image_of row) refl (images_have rows all.1)
      where
        by : (there : Option (List Value)) → image_of row ≡ there → AllByRecursion Has (filter_map image_of rows)
            → AllByRecursion Has (cons_option there (filter_map image_of rows))
        by None is rest = rest
        by (Some values) is rest = (
          all_there_have P numbers (assigned_values (worth row) assignments columns row) values
              (assigned_have (worth row) (each row all.0) columns row all.0) is,
          rest,
        )

    chosen : (enough : Bool) (rows after : Rows) → EachRow Has rows
        → (if enough then Some rows else None) ≡ Some after → EachRow Has after
    chosen true rows after has e = let same : rows ≡ after = cc in subst (EachRow Has) same has
    chosen false rows after has e = cc (e)

    pub updated_have : (matches : List Value → Bool) (rows after : Rows) → EachRow Has rows
        → updated matches image_of rows ≡ Some after → EachRow Has after
    updated_have matches rows after all e =
        let old = set.ascending (matched matches rows) in
        let left = unmatched matches rows in
        let under = to_ascending Has (matched matches rows) (each_retained Has rows matches all) in
        chosen (list_all (λ row. is_some (image_of row)) old) (set.insert_all left (filter_map image_of old)) after
        (each_all_inserted Has left (filter_map image_of old)
        (each_retained Has rows (λ row. not (matches row)) all) (images_have old under)) e
