-- The image that assignments make of a row.
use Rattle.std.proofs.Common.{◌≡◌, ℕ, zero, suc, ◌+◌, Bool, true, false, not, List, [], ◌∷◌, ◌++◌, map, length, Option}
use Rattle.std.proofs.Common.{Some, Ok, refl, sym, ap, subst, ◌∙◌, arith}
use Rattle.std.specs.Prelude.{slice_index_or, slice_set, if◌then◌else◌}
use Rattle.std.specs.List.{AllByRecursion, IsDistinct}
use Rattle.std.proofs.lemmas.Bool.{or_parts}
use Rattle.std.proofs.lemmas.List.{append_assoc, length-append, get_or_at}
use Rattle.ent_value.specs.declared.value.Kind.{Kind}
use Rattle.ent_value.specs.declared.value.Kind.TheVariants as kinds
use Rattle.ent_value.specs.declared.value.Value.{Value}
use Rattle.ent_value.specs.Kinds.{same_kind}
use Rattle.ent_tree.specs.declared.operand.Expression.{Expression}
use Rattle.ent_tree.specs.declared.operand.Expression.TheVariants.{Single, Sum, Difference}
use Rattle.ent_tree.specs.declared.operand.Operand.{Operand as TreeOperand}
use Rattle.ent_tree.specs.declared.statement.Assignment.{Assignment}
use Rattle.ent_semantics.specs.Database.{Name, Environment, same_name, is_among}
use Rattle.ent_semantics.specs.declared.operand.Known.{Known}
use Rattle.ent_semantics.specs.declared.operand.Operand.{Operand}
use Rattle.ent_semantics.specs.Change.{all_there, assigned_value, assigned_values, image}
use Rattle.ent_semantics.specs.Names.{equal_names, names_turned}
use Rattle.ent_semantics.specs.Term.{no_value, expression_value}
use Rattle.ent_form.specs.declared.catalogue.ColumnSchema.{ColumnSchema}
use Rattle.ent_form.specs.declared.fault.FormFault.TheVariants.{NoColumn, WrongKind, Repeated}
use Rattle.ent_form.specs.Catalogue.{column_from, column_named}
use Rattle.ent_form.specs.Kinds.{Bound}
use Rattle.ent_form.specs.Lookup.{operand_in, operands_in, operand_place, kind_in, expression_in, expression_place}
use Rattle.ent_form.specs.Ordinary.{Image, own_from, assignment_in, assignments_from, image_in}
use Rattle.ent_form.specs.Scope.{Scope}
use Rattle.ent_form.specs.Steps.{there}
use Rattle.ent_form.proofs.Heads.{found_of, there_of}
use Rattle.ent_form.proofs.Selecting.{said, meant, operand_same}
use Rattle.ent_form.proofs.ResolvedSteps.{one_answer, demand_given}
use Rattle.ent_form.proofs.Variables.{among_behind}

abbrev pub names_of : List ColumnSchema → List Name
names_of columns = map (λ column. column.name) columns

-- another value at the columns of a name
abbrev over : Name → Option Value → List Name → List (Option Value) → List (Option Value)
over name value [] values = values
over name value (column ∷ columns) [] = []
over name value (column ∷ columns) (x ∷ values) =
    (if same_name column name then value else x) ∷ over name value columns values

over_none : (name : Name) (value : Option Value) (columns : List Name) (values : List (Option Value))
    → AllByRecursion (λ other. same_name name other ≡ false) columns → over name value columns values ≡ values
over_none name value [] values h = refl
over_none name value (column ∷ columns) [] h = refl
over_none name value (column ∷ columns) (x ∷ values) h =
    let other : same_name column name ≡ false = names_turned column name ∙ h.0 in
    λ i. (if other i then value else x) ∷ over_none name value columns values h.1 i

module _ {A : Type 0} (worth : A → Option Value) where
  -- what is set at the column that is found stands under its name
  set_over : (first : ℕ) (columns : List ColumnSchema) (all : List A) (name : Name) (found : ℕ × Kind) (x : A)
      → IsDistinct same_name (names_of columns) → column_from first columns name ≡ Some found
      → (number : ℕ) × (found.0 ≡ first + number)
      × (map worth (slice_set all number x) ≡ over name (worth x) (names_of columns) (map worth all))
  unfolding IsDistinct
  set_over first [] all name found x distinct e = cc
  set_over first (column ∷ columns) [] name found x distinct e =
      let w = counted first (column ∷ columns) e in (w.0, w.1, empty w.0)
    where
      counted : (first : ℕ) (columns : List ColumnSchema) → column_from first columns name ≡ Some found
          → (number : ℕ) × (found.0 ≡ first + number)
      counted first [] e = cc
      counted first (column ∷ columns) e =
          elim (same_name column.name name) as (λ b.
          (if b then Some (first, column.kind) else column_from (suc first) columns name) ≡ Some found
          → (number : ℕ) × (found.0 ≡ first + number)) [
            | true ↦ λ here. (0, (let same = first_same (first, column.kind) found here in omega arith))
            | false ↦ λ later. let w = counted (suc first) columns later in (suc w.0, (let same = w.1 in omega arith))
          ] e
        where
          some_same : (x y : ℕ × Kind) → Some x ≡ Some y → x ≡ y
          some_same x y e = cc

          first_same : (x y : ℕ × Kind) → Some x ≡ Some y → x.0 ≡ y.0
          first_same x y e = ap (λ (p : ℕ × Kind). p.0) (some_same x y e)

      empty : (number : ℕ) → map worth (slice_set [] number x) ≡ []
      empty zero = refl
      empty (suc number) = refl
  set_over first (column ∷ columns) (y ∷ all) name found x distinct e =
      by (same_name column.name name) refl e (λ later. set_over (suc first) columns all name found x distinct.1 later)
    where
      some_same : (x y : ℕ × Kind) → Some x ≡ Some y → x ≡ y
      some_same x y e = cc

      first_same : (x y : ℕ × Kind) → Some x ≡ Some y → x.0 ≡ y.0
      first_same x y e = ap (λ (p : ℕ × Kind). p.0) (some_same x y e)

      by : (b : Bool) → same_name column.name name ≡ b
          → (if b then Some (first, column.kind) else column_from (suc first) columns name) ≡ Some found
          → (column_from (suc first) columns name ≡ Some found → (number : ℕ) × (found.0 ≡ suc first + number)
          × (map worth (slice_set all number x) ≡ over name (worth x) (names_of columns) (map worth all)))
          → (number : ℕ) × (found.0 ≡ first + number)
          × (map worth (slice_set (y ∷ all) number x)
          ≡ (if b then worth x else worth y) ∷ over name (worth x) (names_of columns) (map worth all))
      by true same here later =
          let none : AllByRecursion (λ other. same_name name other ≡ false) (names_of columns) =
          subst (λ n. AllByRecursion (λ other. same_name n other ≡ false) (names_of columns))
          (equal_names column.name name same) distinct.0 in (
            0,
            (let is = first_same (first, column.kind) found here in omega arith),
            ap (λ xs. worth x ∷ xs) (sym (over_none name (worth x) (names_of columns) (map worth all) none)),
          )
      by false same here later =
          let w = later here in
          (suc w.0, (let is = w.1 in omega arith), ap (λ xs. worth y ∷ xs) w.2)

-- the value that assignments give to a column; the one that it has, where none names it
abbrev picked : (Assignment → Option Value) → List Assignment → Name → Option Value → Option Value
picked value [] column x = x
picked value (assignment ∷ more) column x =
    if same_name assignment.column.name column then value assignment else picked value more column x

abbrev all_picked : (Assignment → Option Value) → List Assignment → List Name → List (Option Value)
    → List (Option Value)
all_picked value assignments [] values = values
all_picked value assignments (column ∷ columns) [] = []
all_picked value assignments (column ∷ columns) (x ∷ values) =
    picked value assignments column x ∷ all_picked value assignments columns values

module _ (value : Assignment → Option Value) where
  none_picked : (columns : List Name) (values : List (Option Value)) → all_picked value [] columns values ≡ values
  none_picked [] values = refl
  none_picked (column ∷ columns) [] = refl
  none_picked (column ∷ columns) (x ∷ values) = ap (λ xs. x ∷ xs) (none_picked columns values)

  -- no later assignment names the column of an earlier one
  keeps : (assignments : List Assignment) (name : Name) (x : Option Value)
      → AllByRecursion (λ assignment. same_name name assignment.column.name ≡ false) assignments
      → picked value assignments name x ≡ x
  keeps [] name x h = refl
  keeps (assignment ∷ more) name x h =
      ap (λ b. if b then value assignment else picked value more name x)
      (names_turned assignment.column.name name ∙ h.0)
      ∙ keeps more name x h.1

  first_over : (assignment : Assignment) (more : List Assignment) (columns : List Name) (values : List (Option Value))
      → AllByRecursion (λ other. same_name assignment.column.name other.column.name ≡ false) more
      → all_picked value more columns (over assignment.column.name (value assignment) columns values)
      ≡ all_picked value (assignment ∷ more) columns values
  first_over assignment more [] values h = refl
  first_over assignment more (column ∷ columns) [] h = refl
  first_over assignment more (column ∷ columns) (x ∷ values) h =
      let name = assignment.column.name in
      let here : picked value more column (if same_name column name then value assignment else x)
      ≡ (if same_name name column then value assignment else picked value more column x) =
      by (same_name column name) refl in
      λ i. here i ∷ first_over assignment more columns values h i
    where
      by : (b : Bool) → same_name column assignment.column.name ≡ b
          → picked value more column (if b then value assignment else x)
          ≡ (if same_name assignment.column.name column then value assignment else picked value more column x)
      by true same =
          let is : column ≡ assignment.column.name = equal_names column assignment.column.name same in
          ap (λ c. picked value more c (value assignment)) is
          ∙ keeps more assignment.column.name (value assignment) h
          ∙ ap (λ b. if b then value assignment else picked value more column x)
          (sym (names_turned assignment.column.name column ∙ same))
      by false other =
          ap (λ b. if b then value assignment else picked value more column x)
          (sym (names_turned assignment.column.name column ∙ other))

  -- a row's own values, with those that are assigned
  picked_values : (worth : TreeOperand → Value) → ((assignment : Assignment) → value assignment
      ≡ expression_value worth assignment.expression)
      → (source : Name) (assignments : List Assignment) (columns : List Name) (row : List Value) → length row
      ≡ length columns
      → assigned_values worth assignments (map (λ column. record { source = source; column = column }) columns) row
      ≡ all_picked value assignments columns (map Some row)
  picked_values worth same source assignments [] [] l = refl
  picked_values worth same source assignments [] (x ∷ row) l = absurd (omega arith)
  picked_values worth same source assignments (column ∷ columns) [] l = absurd (omega arith)
  picked_values worth same source assignments (column ∷ columns) (x ∷ row) l =
      let rest = picked_values worth same source assignments columns row (omega arith) in
      λ i. one assignments i ∷ rest i
    where
      one : (assignments : List Assignment)
          → assigned_value worth assignments (record { source = source; column = column }) x
          ≡ picked value assignments column (Some x)
      one [] = refl
      one (assignment ∷ more) =
          λ i. if same_name assignment.column.name column then sym (same assignment) i else one more i

-- ---- the image

module _ (environment : Environment) (bound : Bound) (scope : Scope) (row : List Value) where
  abbrev seen_as : TreeOperand → Value
  seen_as operand = said environment bound scope row operand

  abbrev known_as : Operand Known → Value
  known_as operand = meant environment bound scope row operand

  kind_same : (kind : Kind) (term : TreeOperand) (form : Operand Known)
      → kind_in (operands_in scope bound) kind term ≡ Ok form → seen_as term ≡ known_as form
  kind_same kind term form e =
      let w = found_of (operand_in scope bound term) _ form e in
      let kept = demand_given (same_kind kind w.0.1) (WrongKind (operand_place term)) (Ok w.0.0) form w.2 in
      operand_same environment bound scope row term w.0 w.1 ∙ ap known_as (one_answer w.0.0 form kept.1)

  expression_same : (expression : Expression TreeOperand) (found : Expression (Operand Known) × Kind)
      → expression_in (operands_in scope bound) expression ≡ Ok found
      → expression_value seen_as expression ≡ expression_value known_as found.0
  expression_same (Single term) found e =
      let w = found_of (operand_in scope bound term) _ found e in
      ap (λ (v : Value). Some v) (operand_same environment bound scope row term w.0 w.1)
      ∙ ap (λ (f : Expression (Operand Known) × Kind). expression_value known_as f.0) (one_answer _ found w.2)
  expression_same (Sum left right) found e =
      let v = found_of (kind_in (operands_in scope bound) kinds.Int left) _ found e in
      let w = found_of (kind_in (operands_in scope bound) kinds.Int right) _ found v.2 in
      let l = kind_same kinds.Int left v.0 v.1 in
      let r = kind_same kinds.Int right w.0 w.1 in
      (λ i. expression_value (λ (x : Value). x) (Sum (l i) (r i)))
      ∙ ap (λ (f : Expression (Operand Known) × Kind). expression_value known_as f.0) (one_answer _ found w.2)
  expression_same (Difference left right) found e =
      let v = found_of (kind_in (operands_in scope bound) kinds.Int left) _ found e in
      let w = found_of (kind_in (operands_in scope bound) kinds.Int right) _ found v.2 in
      let l = kind_same kinds.Int left v.0 v.1 in
      let r = kind_same kinds.Int right w.0 w.1 in
      (λ i. expression_value (λ (x : Value). x) (Difference (l i) (r i)))
      ∙ ap (λ (f : Expression (Operand Known) × Kind). expression_value known_as f.0) (one_answer _ found w.2)

  abbrev worth_of : Expression (Operand Known) → Option Value
  worth_of expression = expression_value known_as expression

  abbrev given : Assignment → Option Value
  given assignment = expression_value seen_as assignment.expression

  -- one assignment, and that its column is new
  assigned : (columns : List ColumnSchema) (earlier : List Name) (before after : Image) (assignment : Assignment)
      → IsDistinct same_name (names_of columns)
      → assignment_in scope bound columns earlier before assignment ≡ Ok after
      → (is_among earlier assignment.column.name ≡ false)
      × (map worth_of after ≡ over assignment.column.name (given assignment) (names_of columns) (map worth_of before))
  unfolding assignment_in
  assigned columns earlier before after assignment distinct e =
      let name = assignment.column.name in
      let column = found_of (there (column_named columns name) (NoColumn assignment.column.place)) _ after e in
      let there_it_is = there_of (column_named columns name) (NoColumn assignment.column.place) column.0 column.1 in
      let fresh = demand_given (not (is_among earlier name)) (Repeated assignment.column.place) _ after column.2 in
      let made = found_of (expression_in (operands_in scope bound) assignment.expression) _ after fresh.1 in
      let kept = demand_given (same_kind column.0.1 made.0.1)
      (WrongKind (expression_place operand_place assignment.expression))
      (Ok (slice_set before column.0.0 made.0.0)) after made.2 in
      let put = set_over worth_of 0 columns before name column.0 made.0.0 distinct there_it_is in
      let number : column.0.0 ≡ put.0 = let c = put.1 in omega arith in (
        not_true (is_among earlier name) fresh.0,
        ap (map worth_of) (sym (one_answer (slice_set before column.0.0 made.0.0) after kept.1))
            ∙ ap (λ n. map worth_of (slice_set before n made.0.0)) number
            ∙ put.2
            ∙ ap (λ v. over name v (names_of columns) (map worth_of before))
            (sym (expression_same assignment.expression made.0 made.1)),
      )
    where
      not_true : (b : Bool) → not b ≡ true → b ≡ false
      not_true true e = cc
      not_true false e = refl

  all_new : (columns : List ColumnSchema) (assignments : List Assignment) (earlier : List Name) (before after : Image)
      → IsDistinct same_name (names_of columns)
      → assignments_from scope bound columns earlier before assignments ≡ Ok after
      → AllByRecursion (λ assignment. is_among earlier assignment.column.name ≡ false) assignments
  all_new columns [] earlier before after distinct e = tt
  all_new columns (assignment ∷ more) earlier before after distinct e =
      let w = found_of (assignment_in scope bound columns earlier before assignment) _ after e in
      let rest = all_new columns more (earlier ++ assignment.column.name ∷ []) w.0 after distinct w.2 in (
        (assigned columns earlier before w.0 assignment distinct w.1).0,
        still_new earlier assignment.column.name more
            rest,
      )
    where
      still_new : (earlier : List Name) (name : Name) (more : List Assignment)
          → AllByRecursion (λ other. is_among (earlier ++ name ∷ []) other.column.name ≡ false) more
          → AllByRecursion (λ other. is_among earlier other.column.name ≡ false) more
      still_new earlier name [] h = tt
      still_new earlier name (other ∷ more) h = (
        (or_parts (is_among earlier other.column.name) _ (sym (among_behind earlier name other.column.name)
            ∙ h.0)).0,
        still_new earlier name more h.1,
      )

  differ : (earlier : List Name) (name : Name) (more : List Assignment)
      → AllByRecursion (λ other. is_among (earlier ++ name ∷ []) other.column.name ≡ false) more
      → AllByRecursion (λ other. same_name name other.column.name ≡ false) more
  differ earlier name [] h = tt
  differ earlier name (other ∷ more) h = (
    (or_parts (is_among earlier other.column.name) _ (sym (among_behind earlier name other.column.name) ∙ h.0)).1,
    differ earlier name more h.1,
  )

  all_assigned : (columns : List ColumnSchema) (assignments : List Assignment) (earlier : List Name)
      (before after : Image)
      → IsDistinct same_name (names_of columns)
      → assignments_from scope bound columns earlier before assignments ≡ Ok after
      → map worth_of after ≡ all_picked given assignments (names_of columns) (map worth_of before)
  all_assigned columns [] earlier before after distinct e =
      ap (map worth_of) (sym (one_answer before after e)) ∙ sym
      (none_picked given (names_of columns) (map worth_of before))
  all_assigned columns (assignment ∷ more) earlier before after distinct e =
      let w = found_of (assignment_in scope bound columns earlier before assignment) _ after e in
      let name = assignment.column.name in
      let later = all_new columns more (earlier ++ name ∷ []) w.0 after distinct w.2 in
      all_assigned columns more (earlier ++ name ∷ []) w.0 after distinct w.2
      ∙ ap (all_picked given more (names_of columns)) (assigned columns earlier before w.0 assignment distinct w.1).1
      ∙ first_over given assignment more (names_of columns) (map worth_of before) (differ earlier name more later)

-- a column that isn't assigned is its own
own_shown : (environment : Environment) (bound : Bound) (scope : Scope) (before row : List Value)
    (columns : List ColumnSchema)
    → (first : ℕ) → length before ≡ first → length row ≡ length columns
    → map (worth_of environment bound scope (before ++ row)) (own_from first columns) ≡ map Some row
own_shown environment bound scope before [] [] first is l = refl
own_shown environment bound scope before [] (column ∷ columns) first is l = absurd (omega arith)
own_shown environment bound scope before (value ∷ row) [] first is l = absurd (omega arith)
own_shown environment bound scope before (value ∷ row) (column ∷ columns) first is l =
    let longer : length (before ++ value ∷ []) ≡ suc first = omega (arith, length-append before (value ∷ [])) in
    let here : slice_index_or (before ++ value ∷ row) first no_value
    ≡ value = get_or_at before value row no_value first is in
    let rest : map (worth_of environment bound scope ((before ++ value ∷ []) ++ row)) (own_from (suc first) columns)
    ≡ map Some row =
    own_shown environment bound scope (before ++ value ∷ []) row columns (suc first) longer (omega arith) in
    λ i. Some (here i) ∷ (ap (λ (r : List Value). map (worth_of environment bound scope r)
    (own_from (suc first) columns)) (sym (append_assoc before (value ∷ []) row)) ∙ rest) i

pub image_same : (environment : Environment) (bound : Bound) (scope : Scope) (source : Name)
    (columns : List ColumnSchema)
    → (assignments : List Assignment) (made : Image) (row : List Value)
    → IsDistinct same_name (names_of columns) → image_in scope bound columns assignments ≡ Ok made
    → length row ≡ length columns → length row ≡ length (names_of columns)
    → image (said environment bound scope) assignments (map (λ column. record { source = source; column = column })
    (names_of columns)) row
    ≡ all_there (map (expression_value (meant environment bound scope row)) made)
unfolding image_in
image_same environment bound scope source columns assignments made row distinct e l n =
    ap all_there
    (picked_values (given environment bound scope row) (said environment bound scope row) (λ assignment. refl) source
    assignments (names_of columns) row n
    ∙ ap (all_picked (given environment bound scope row) assignments (names_of columns))
    (sym (own_shown environment bound scope [] row columns 0 refl l))
    ∙ sym (all_assigned environment bound scope row columns assignments [] (own_from 0 columns) made distinct e))
