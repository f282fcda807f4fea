-- What is worked out over a row is of the kind that it was looked up in.
use Rattle.std.proofs.Common.{◌≡◌, ℕ, zero, suc, ◌+◌, true, false, List, [], ◌∷◌, ◌++◌, map, length, Option}
use Rattle.std.proofs.Common.{Some, Ok, refl, sym, ap, subst, ◌∙◌, arith}
use Rattle.std.specs.Prelude.{not, slice_get, slice_set, if◌then◌else◌}
use Rattle.std.proofs.lemmas.List.{append_assoc, length-append}
use Rattle.std.proofs.lemmas.Simd.{map-map}
use Rattle.ent_value.specs.declared.value.Kind.{Kind}
use Rattle.ent_value.specs.declared.value.Kind.TheVariants as kinds
use Rattle.ent_value.specs.declared.value.Value.{Value}
use Rattle.ent_value.specs.Kinds.{same_kind, equal_kinds}
use Rattle.ent_tree.specs.declared.operand.ColumnReference.{ColumnReference}
use Rattle.ent_tree.specs.declared.operand.Expression.{Expression}
use Rattle.ent_tree.specs.declared.operand.Expression.TheVariants.{Single, Sum, Difference}
use Rattle.ent_tree.specs.declared.operand.Operand.{Operand as TreeOperand}
use Rattle.ent_tree.specs.declared.operand.Operand.TheVariants as operands
use Rattle.ent_tree.specs.declared.statement.Assignment.{Assignment}
use Rattle.ent_semantics.specs.Database.{Name, Environment, same_name, is_among}
use Rattle.ent_semantics.specs.Closing.{operand_over, expression_over}
use Rattle.ent_semantics.specs.Form.{known_worth}
use Rattle.ent_semantics.specs.declared.operand.Known.{Known}
use Rattle.ent_semantics.specs.declared.operand.Operand.{Operand}
use Rattle.ent_semantics.specs.declared.operand.Operand.TheVariants as resolved
use Rattle.ent_semantics.specs.Term.{refers_to}
use Rattle.ent_form.specs.declared.catalogue.ColumnSchema.{ColumnSchema}
use Rattle.ent_form.specs.declared.fault.FormFault.TheVariants.{NoColumn, WrongKind, Repeated, NoTable}
use Rattle.ent_form.specs.Catalogue.{column_from, column_named}
use Rattle.ent_form.specs.Kinds.{Bound}
use Rattle.ent_form.specs.Lookup.{value_in, operand_place, operand_in, operands_in, kind_in, expression_in}
use Rattle.ent_form.specs.Lookup.{expression_place}
use Rattle.ent_form.specs.Ordinary.{Image, own_from, assignment_in, assignments_from, image_in}
use Rattle.ent_form.specs.Scope.{Visible, Scope, visible, referred_from, only_one, column_in, qualifier_in}
use Rattle.ent_form.specs.Steps.{there}
use Rattle.ent_semantics.specs.FormKinds.{operand_kind, expression_kind}
use Rattle.ent_form.proofs.Heads.{unqualified, found_of, there_of}
use Rattle.ent_form.specs.declared.fault.FormFault.{FormFault}
use Rattle.ent_form.specs.TableKinds.{HasKinds}
use Rattle.ent_form.proofs.Known.{value_kinded}
use Rattle.ent_form.proofs.ResolvedSteps.{one_answer, demand_given}

-- ---- columns

abbrev pub kind_seen : Visible → Kind
kind_seen column = column.kind

abbrev pub kind_declared : ColumnSchema → Kind
kind_declared column = column.kind

pub kinds_seen : (source : Name) (columns : List ColumnSchema)
    → map kind_seen (map (visible source) columns) ≡ map kind_declared columns
kinds_seen source columns = map-map kind_seen (visible source) columns

first_same : (x y : ℕ × Kind) (xs ys : List (ℕ × Kind)) → x ∷ xs ≡ y ∷ ys → x ≡ y
first_same x y xs ys e = cc

one_found : (x y : ℕ × Kind) → Some x ≡ Some y → x ≡ y
one_found x y e = cc

referred_kind : (columns : List Visible) (reference : ColumnReference) (first : ℕ) (found : ℕ × Kind)
    → (rest : List (ℕ × Kind)) → referred_from first columns reference ≡ found ∷ rest
    → (number : ℕ) × (found.0 ≡ first + number) × (slice_get (map kind_seen columns) number ≡ Some found.1)
referred_kind [] reference first found rest e = cc
referred_kind (column ∷ columns) reference first found rest e =
    elim (refers_to reference column.column) as (λ b.
    (if b then ((first, column.kind) ∷ referred_from (suc first) columns reference)
    else referred_from (suc first) columns reference) ≡ found ∷ rest
    → (number : ℕ) × (found.0 ≡ first + number)
    × (slice_get (column.kind ∷ map kind_seen columns) number ≡ Some found.1)) [
      | true ↦ λ here.
          let same : (first, column.kind) ≡ found = first_same (first, column.kind) found _ _ here in
          let number : first ≡ found.0 = ap (λ (x : ℕ × Kind). x.0) same in
          (0, (omega arith), ap (λ (x : ℕ × Kind). Some x.1) same)
      | false ↦ λ later.
          let w = referred_kind columns reference (suc first) found rest later in
          (suc w.0, (let number = w.1 in omega arith), w.2)
    ] e

only_found : (all : List (ℕ × Kind)) (place : ℕ) (found : ℕ × Kind) → only_one all place ≡ Ok found → all ≡ found ∷ []
only_found [] place found e = cc
only_found (x ∷ []) place found e = ap (λ (y : ℕ × Kind). y ∷ []) (one_answer x found e)
only_found (x ∷ y ∷ more) place found e = cc

column_kinded : (scope : Scope) (reference : ColumnReference) (found : ℕ × Kind) → column_in scope reference ≡ Ok found
    → slice_get (map kind_seen scope.columns) found.0 ≡ Some found.1
column_kinded scope reference found e =
    let all = referred_from 0 scope.columns reference in
    let one = unqualified scope.names reference.qualifier (only_one all reference.column.place) found e in
    let w = referred_kind scope.columns reference 0 found [] (only_found all reference.column.place found one) in
    let same : w.0 ≡ found.0 = let number = w.1 in omega arith in
    sym (ap (slice_get (map kind_seen scope.columns)) same) ∙ w.2

named_kind : (columns : List ColumnSchema) (name : Name) (first : ℕ) (found : ℕ × Kind)
    → column_from first columns name ≡ Some found
    → (number : ℕ) × (found.0 ≡ first + number) × (slice_get (map kind_declared columns) number ≡ Some found.1)
named_kind [] name first found e = cc
named_kind (column ∷ columns) name first found e =
    elim (same_name column.name name) as (λ b.
    (if b then Some (first, column.kind) else column_from (suc first) columns name) ≡ Some found
    → (number : ℕ) × (found.0 ≡ first + number)
    × (slice_get (column.kind ∷ map kind_declared columns) number ≡ Some found.1)) [
      | true ↦ λ here.
          let same : (first, column.kind) ≡ found = one_found (first, column.kind) found here in
          let number : first ≡ found.0 = ap (λ (x : ℕ × Kind). x.0) same in
          (0, (omega arith), ap (λ (x : ℕ × Kind). Some x.1) same)
      | false ↦ λ later.
          let w = named_kind columns name (suc first) found later in
          (suc w.0, (let number = w.1 in omega arith), w.2)
    ] e

-- ---- operands and expressions

module _ (bound : Bound) (environment : Environment) (have : HasKinds bound environment) (scope : Scope) where
  abbrev worth : Known → Value
  worth = known_worth environment

  abbrev columns : List Kind
  columns = map kind_seen scope.columns

  pub operand_kinded : (operand : TreeOperand) (found : Operand Known × Kind)
      → operand_in scope bound operand ≡ Ok found
      → operand_kind columns (operand_over worth found.0) ≡ Some found.1
  operand_kinded (operands.Value value) found e =
      let w = found_of (value_in bound value) _ found e in
      subst (λ (f : Operand Known × Kind). operand_kind columns (operand_over worth f.0) ≡ Some f.1)
      (one_answer (resolved.Known w.0.0, w.0.1) found w.2)
      (ap (λ (kind : Kind). Some kind) (value_kinded bound environment have value w.0 w.1))
  operand_kinded (operands.Column reference) found e =
      let w = found_of (column_in scope reference) _ found e in
      subst (λ (f : Operand Known × Kind). operand_kind columns (operand_over worth f.0) ≡ Some f.1)
      (one_answer (resolved.Column w.0.0, w.0.1) found w.2) (column_kinded scope reference w.0 w.1)

  abbrev pub expression_kind_over : List Kind → Expression (Operand Known) → Option Kind
  expression_kind_over kinds expression = expression_kind (operand_kind kinds) (expression_over (operand_over worth)
      expression)

  pub assigned_kinded : (expression : Expression TreeOperand) (found : Expression (Operand Known) × Kind)
      → expression_in (operands_in scope bound) expression ≡ Ok found
      → expression_kind_over columns found.0 ≡ Some found.1
  assigned_kinded (Single term) found e =
      let w = found_of (operand_in scope bound term) _ found e in
      subst (λ (f : Expression (Operand Known) × Kind). expression_kind_over columns f.0 ≡ Some f.1)
      (one_answer (Single w.0.0, w.0.1) found w.2) (operand_kinded term w.0 w.1)
  assigned_kinded (Sum left right) found e =
      let l = found_of (kind_in (operands_in scope bound) kinds.Int left) _ found e in
      let r = found_of (kind_in (operands_in scope bound) kinds.Int right) _ found l.2 in
      subst (λ (f : Expression (Operand Known) × Kind). expression_kind_over columns f.0 ≡ Some f.1)
      (one_answer (Sum l.0 r.0, kinds.Int) found r.2) refl
  assigned_kinded (Difference left right) found e =
      let l = found_of (kind_in (operands_in scope bound) kinds.Int left) _ found e in
      let r = found_of (kind_in (operands_in scope bound) kinds.Int right) _ found l.2 in
      subst (λ (f : Expression (Operand Known) × Kind). expression_kind_over columns f.0 ≡ Some f.1)
      (one_answer (Difference l.0 r.0, kinds.Int) found r.2) refl

-- ---- images

-- an element is put where one of its kind stands
put_kept : {A : Type 0} (kind : A → Option Kind) (image : List A) (kinds : List Kind) (number : ℕ) (new : A)
    (wanted : Kind)
    → map kind image ≡ map Some kinds → slice_get kinds number ≡ Some wanted → kind new ≡ Some wanted
    → map kind (slice_set image number new) ≡ map Some kinds
put_kept kind [] kinds number new wanted e at is = e
put_kept kind (x ∷ xs) [] number new wanted e at is = cc
put_kept kind (x ∷ xs) (first ∷ kinds) zero new wanted e at is =
    let both = parts (kind x) (Some first) (map kind xs) (map Some kinds) e in
    λ i. (is ∙ sym at) i ∷ both.1 i
  where
    parts : (x y : Option Kind) (xs ys : List (Option Kind)) → x ∷ xs ≡ y ∷ ys → (x ≡ y) × (xs ≡ ys)
    parts x y xs ys e = (cc, cc)
put_kept kind (x ∷ xs) (first ∷ kinds) (suc number) new wanted e at is =
    let both = parts (kind x) (Some first) (map kind xs) (map Some kinds) e in
    λ i. both.0 i ∷ put_kept kind xs kinds number new wanted both.1 at is i
  where
    parts : (x y : Option Kind) (xs ys : List (Option Kind)) → x ∷ xs ≡ y ∷ ys → (x ≡ y) × (xs ≡ ys)
    parts x y xs ys e = (cc, cc)

pub kind_behind : (before : List Kind) (kind : Kind) (after : List Kind) (number : ℕ) → length before ≡ number
    → slice_get (before ++ kind ∷ after) number ≡ Some kind
kind_behind [] kind after zero l = refl
kind_behind [] kind after (suc number) l = absurd (omega arith)
kind_behind (first ∷ before) kind after zero l = absurd (omega arith)
kind_behind (first ∷ before) kind after (suc number) l = kind_behind before kind after number (omega arith)

module _ (bound : Bound) (environment : Environment) (have : HasKinds bound environment) (scope : Scope)
    (columns : List ColumnSchema) (seen : map kind_seen scope.columns ≡ map kind_declared columns) where
  abbrev kind_of_image : List Kind → Expression (Operand Known) → Option Kind
  kind_of_image kinds expression = expression_kind (operand_kind kinds)
      (expression_over (operand_over (known_worth environment)) expression)

  abbrev column_kinds : List Kind
  column_kinds = map kind_declared columns

  own_kept : (before : List Kind) (more : List ColumnSchema) (first : ℕ) → length before ≡ first
      → map (kind_of_image (before ++ map kind_declared more)) (own_from first more) ≡ map Some (map kind_declared more)
  own_kept before [] first l = refl
  own_kept before (column ∷ more) first l =
      let longer : length (before ++ column.kind ∷ []) ≡ suc first =
      omega (arith, length-append before (column.kind ∷ []))
      in
      let rest = own_kept (before ++ column.kind ∷ []) more (suc first) longer in
      λ i. kind_behind before column.kind (map kind_declared more) first l i
      ∷ (ap (λ (kinds : List Kind). map (kind_of_image kinds) (own_from (suc first) more))
      (sym (append_assoc before (column.kind ∷ []) (map kind_declared more))) ∙ rest) i

  assignment_kept : (earlier : List Name) (image out : Image) (assignment : Assignment)
      → map (kind_of_image column_kinds) image ≡ map Some column_kinds
      → assignment_in scope bound columns earlier image assignment ≡ Ok out
      → map (kind_of_image column_kinds) out ≡ map Some column_kinds
  unfolding assignment_in
  assignment_kept earlier image out assignment kept e =
      let name = assignment.column.name in
      let w = found_of (there (column_named columns name) (NoColumn assignment.column.place)) _ out e in
      let column : ℕ × Kind = w.0 in
      let at = named_kind columns name 0 column
      (there_of (column_named columns name) (NoColumn assignment.column.place) column w.1) in
      let new = demand_given (not (is_among earlier name)) (Repeated assignment.column.place) _ out w.2 in
      let right = found_of (expression_in (operands_in scope bound) assignment.expression) _ out new.1 in
      let found : Expression (Operand Known) × Kind = right.0 in
      let compared = demand_given (same_kind column.1 found.1)
      (WrongKind (expression_place operand_place assignment.expression)) _ out right.2 in
      let is : kind_of_image column_kinds found.0 ≡ Some column.1 =
      ap (λ (kinds : List Kind). kind_of_image kinds found.0) (sym seen)
      ∙ assigned_kinded bound environment have scope assignment.expression found right.1
      ∙ ap (λ (kind : Kind). Some kind) (sym (equal_kinds column.1 found.1 compared.0)) in
      let number : at.0 ≡ column.0 = let n = at.1 in omega arith in
      sym (ap (map (kind_of_image column_kinds)) (one_answer (slice_set image column.0 found.0) out compared.1))
      ∙ put_kept (kind_of_image column_kinds) image column_kinds column.0 found.0 column.1 kept
      (sym (ap (slice_get column_kinds) number) ∙ at.2) is

  assignments_kept : (assignments : List Assignment) (earlier : List Name) (image out : Image)
      → map (kind_of_image column_kinds) image ≡ map Some column_kinds
      → assignments_from scope bound columns earlier image assignments ≡ Ok out
      → map (kind_of_image column_kinds) out ≡ map Some column_kinds
  assignments_kept [] earlier image out kept e =
      sym (ap (map (kind_of_image column_kinds)) (one_answer image out e)) ∙ kept
  assignments_kept (assignment ∷ more) earlier image out kept e =
      let w = found_of (assignment_in scope bound columns earlier image assignment) _ out e in
      assignments_kept more (earlier ++ assignment.column.name ∷ []) w.0 out
      (assignment_kept earlier image w.0 assignment kept w.1) w.2

  pub image_kinded : (assignments : List Assignment) (image : Image)
      → image_in scope bound columns assignments ≡ Ok image
      → map (expression_kind (operand_kind column_kinds))
      (map (expression_over (operand_over (known_worth environment))) image) ≡ map Some column_kinds
  unfolding image_in
  image_kinded assignments image e =
      map-map (expression_kind (operand_kind column_kinds)) (expression_over (operand_over (known_worth environment)))
      image
      ∙ assignments_kept assignments [] (own_from 0 columns) image (own_kept [] columns 0 refl) e
