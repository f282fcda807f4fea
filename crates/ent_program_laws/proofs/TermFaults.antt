-- The faults of terms, tests and expressions are the same, places aside.
use Rattle.std.proofs.Common.{◌≡◌, ℕ, Bool, List, [], ◌∷◌, ◌++◌, filter, refl, ap, ◌∙◌, Option, Some}
use Rattle.std.proofs.Common.{None, is_none, not}
use Rattle.std.specs.Option.{option_map}
use Rattle.ent_value.specs.declared.value.Kind.{Kind}
use Rattle.ent_value.specs.declared.value.Kind.TheVariants as kinds
use Rattle.ent_tree.specs.Places.{unplaced_identifier, unplaced_specification, unplaced_column, unplaced_operand}
use Rattle.ent_tree.specs.Places.{unplaced_expression, unplaced_test, value_place}
use Rattle.ent_tree.specs.declared.operand.ColumnReference.{ColumnReference}
use Rattle.ent_tree.specs.declared.operand.Expression.{Expression}
use Rattle.ent_tree.specs.declared.operand.Expression.TheVariants.{Single, Sum, Difference}
use Rattle.ent_tree.specs.declared.operand.Identifier.{Identifier}
use Rattle.ent_tree.specs.declared.operand.Operand.{Operand}
use Rattle.ent_tree.specs.declared.operand.Operand.TheVariants as operands
use Rattle.ent_tree.specs.declared.operand.Test.{Test}
use Rattle.ent_tree.specs.declared.operand.ValueSpecification.{ValueSpecification}
use Rattle.ent_tree.specs.declared.operand.ValueSpecification.TheVariants as specifications
use Rattle.ent_semantics.specs.Database.{is_among}
use Rattle.ent_form.specs.AllFaults.{Terms, View, kinds_faults, value_kind, value_faults, values, columns_meant}
use Rattle.ent_form.specs.AllFaults.{meant_faults, qualifier_faults, reference_faults, operand_kind, operand_faults}
use Rattle.ent_form.specs.AllFaults.{only_kind}
use Rattle.ent_form.specs.AllFaults.{operands_over, wanted_faults, test_faults, expression_faults, expression_kind}
use Rattle.ent_form.specs.Kinds.{Bound}
use Rattle.ent_form.specs.Lookup.{reference_place, operand_place, expression_place}
use Rattle.ent_form.specs.Scope.{Visible}
use Rattle.ent_form.specs.declared.fault.FormFault.{FormFault}
use Rattle.ent_form.specs.declared.fault.FormFault.TheVariants.{NoTable, WrongKind, NoHostVariable}
use Rattle.ent_program_laws.proofs.FaultLists.{AreBare, both_bare, where_bare, unless_bare, kinds_bare}
use Rattle.ent_program_laws.proofs.Terms.{reference_same}

-- terms without their places have the same kinds and the same faults, places aside
pub record AreBareTerms {A : Type 0} (unplaced : A → A) (terms : Terms A) : Type 0 where
  pub kind : (term : A) → terms.kind (unplaced term) ≡ terms.kind term
  pub faults : (term : A) → AreBare (terms.faults (unplaced term)) (terms.faults term)
  pub place : (term : A) → terms.place (unplaced term) ≡ 0

-- ---- values

pub value_kind_same : (bound : Bound) (value : ValueSpecification)
    → value_kind bound (unplaced_specification value) ≡ value_kind bound value
value_kind_same bound (specifications.Literal literal) = refl
value_kind_same bound (specifications.HostVariable variable) = refl

pub value_bare : (bound : Bound) (value : ValueSpecification)
    → AreBare (value_faults bound (unplaced_specification value)) (value_faults bound value)
value_bare bound (specifications.Literal literal) = refl
value_bare bound (specifications.HostVariable variable) =
    where_bare (is_none (bound variable.name)) (NoHostVariable variable.place)

pub value_place_none : (value : ValueSpecification) → value_place (unplaced_specification value) ≡ 0
value_place_none (specifications.Literal literal) = refl
value_place_none (specifications.HostVariable variable) = refl

pub values_bare : (bound : Bound) → AreBareTerms unplaced_specification (values bound)
values_bare bound = record { kind = value_kind_same bound; faults = value_bare bound; place = value_place_none }

-- ---- columns

meant_same : (view : View) (reference : ColumnReference)
    → columns_meant view (unplaced_column reference) ≡ columns_meant view reference
meant_same view reference =
    ap (λ (p : Visible → Bool). filter p view.columns) (λ i column. reference_same reference column.column i)

only_bare : (meant : List Visible) (place : ℕ) → AreBare (meant_faults meant 0) (meant_faults meant place)
only_bare [] place = refl
only_bare (column ∷ []) place = refl
only_bare (column ∷ other ∷ more) place = refl

qualifier_bare : (view : View) (qualifier : Option Identifier)
    → AreBare (qualifier_faults view (option_map unplaced_identifier qualifier)) (qualifier_faults view qualifier)
qualifier_bare view (Some qualifier) = where_bare (not (is_among view.names qualifier.name)) (NoTable qualifier.place)
qualifier_bare view None = refl

reference_bare : (view : View) (reference : ColumnReference)
    → AreBare (reference_faults view (unplaced_column reference)) (reference_faults view reference)
reference_bare view reference =
    unless_bare (qualifier_faults view reference.qualifier)
    (meant_faults (columns_meant view reference) reference.column.place)
    (qualifier_faults view (option_map unplaced_identifier reference.qualifier))
    (meant_faults (columns_meant view (unplaced_column reference)) 0) (qualifier_bare view reference.qualifier)
    (ap (λ (meant : List Visible). meant_faults meant 0) (meant_same view reference)
    ∙ only_bare (columns_meant view reference) reference.column.place)

reference_place_or : (qualifier : Option Identifier) (column : Identifier)
    → reference_place (unplaced_column (record { qualifier = qualifier; column = column })) ≡ 0
reference_place_or None column = refl
reference_place_or (Some qualifier) column = refl

pub operand_place_none : (operand : Operand) → operand_place (unplaced_operand operand) ≡ 0
operand_place_none (operands.Value value) = value_place_none value
operand_place_none (operands.Column reference) = reference_place_or reference.qualifier reference.column

pub operand_kind_same : (view : View) (bound : Bound) (operand : Operand)
    → operand_kind view bound (unplaced_operand operand) ≡ operand_kind view bound operand
operand_kind_same view bound (operands.Value value) = value_kind_same bound value
operand_kind_same view bound (operands.Column reference) =
    ap (λ (meant : List Visible). only_kind meant) (meant_same view reference)

operand_bare : (view : View) (bound : Bound) (operand : Operand)
    → AreBare (operand_faults view bound (unplaced_operand operand)) (operand_faults view bound operand)
operand_bare view bound (operands.Value value) = value_bare bound value
operand_bare view bound (operands.Column reference) = reference_bare view reference

pub operands_bare : (view : View) (bound : Bound) → AreBareTerms unplaced_operand (operands_over view bound)
operands_bare view bound = record {
  kind = operand_kind_same view bound;
  faults = operand_bare view bound;
  place = operand_place_none;
}

-- ---- tests and expressions

module _ {A : Type 0} (unplaced : A → A) (terms : Terms A) (bare : AreBareTerms unplaced terms) where
  pub wanted_bare : (wanted : Kind) (term : A)
      → AreBare (wanted_faults terms wanted (unplaced term)) (wanted_faults terms wanted term)
  wanted_bare wanted term =
      both_bare (terms.faults term) (kinds_faults (Some wanted) (terms.kind term) (WrongKind (terms.place term)))
      (terms.faults (unplaced term))
      (kinds_faults (Some wanted) (terms.kind (unplaced term)) (WrongKind (terms.place (unplaced term))))
      (bare.faults term)
      ((λ i. kinds_faults (Some wanted) (bare.kind term i) (WrongKind (bare.place term i)))
      ∙ kinds_bare (Some wanted) (terms.kind term) (WrongKind (terms.place term)))

  pub test_bare : (test : Test A) → AreBare (test_faults terms (unplaced_test unplaced test)) (test_faults terms test)
  test_bare test =
      both_bare (terms.faults test.left) (terms.faults test.right ++ differing) (terms.faults (unplaced test.left))
      (terms.faults (unplaced test.right) ++ bare_differing) (bare.faults test.left)
      (both_bare (terms.faults test.right) differing (terms.faults (unplaced test.right)) bare_differing
      (bare.faults test.right)
      ((λ i. kinds_faults (bare.kind test.left i) (bare.kind test.right i) (WrongKind (bare.place test.right i)))
      ∙ kinds_bare (terms.kind test.left) (terms.kind test.right) (WrongKind (terms.place test.right))))
    where
      differing : List FormFault
      differing = kinds_faults (terms.kind test.left) (terms.kind test.right) (WrongKind (terms.place test.right))

      bare_differing : List FormFault
      bare_differing = kinds_faults (terms.kind (unplaced test.left)) (terms.kind (unplaced test.right))
          (WrongKind (terms.place (unplaced test.right)))

  pub expression_bare : (expression : Expression A)
      → AreBare (expression_faults terms (unplaced_expression unplaced expression)) (expression_faults terms expression)
  expression_bare (Single term) = bare.faults term
  expression_bare (Sum left right) =
      both_bare (wanted_faults terms kinds.Int left) (wanted_faults terms kinds.Int right)
      (wanted_faults terms kinds.Int (unplaced left)) (wanted_faults terms kinds.Int (unplaced right))
      (wanted_bare kinds.Int left) (wanted_bare kinds.Int right)
  expression_bare (Difference left right) =
      both_bare (wanted_faults terms kinds.Int left) (wanted_faults terms kinds.Int right)
      (wanted_faults terms kinds.Int (unplaced left)) (wanted_faults terms kinds.Int (unplaced right))
      (wanted_bare kinds.Int left) (wanted_bare kinds.Int right)

  pub expression_kind_same : (expression : Expression A)
      → expression_kind terms (unplaced_expression unplaced expression) ≡ expression_kind terms expression
  expression_kind_same (Single term) = bare.kind term
  expression_kind_same (Sum left right) = refl
  expression_kind_same (Difference left right) = refl

pub expression_place_none : {A : Type 0} (unplaced : A → A) (place : A → ℕ) → ((term : A) → place (unplaced term) ≡ 0)
    → (expression : Expression A) → expression_place place (unplaced_expression unplaced expression) ≡ 0
expression_place_none unplaced place none (Single term) = none term
expression_place_none unplaced place none (Sum left right) = none left
expression_place_none unplaced place none (Difference left right) = none left
