-- How the terms of statements are looked up, and the tests and expressions that are made of them.
use Rattle.std.specs.Prelude.{ℕ, Result, Ok, Option, Some, None}
use Rattle.ent_value.specs.Refusal.{◌>>=◌}
use Rattle.ent_value.specs.Value.{kind_of}
use Rattle.ent_value.specs.declared.value.Kind.{Kind}
use Rattle.ent_value.specs.declared.value.Kind.TheVariants as kinds
use Rattle.ent_value.specs.Kinds.{same_kind}
use Rattle.ent_tree.specs.Places.{value_place}
use Rattle.ent_tree.specs.declared.operand.Expression.{Expression}
use Rattle.ent_tree.specs.declared.operand.Expression.TheVariants.{Single, Sum, Difference}
use Rattle.ent_tree.specs.declared.operand.Identifier.{Identifier}
use Rattle.ent_tree.specs.declared.operand.ColumnReference.{ColumnReference}
use Rattle.ent_tree.specs.declared.operand.Operand.{Operand}
use Rattle.ent_tree.specs.declared.operand.Operand.TheVariants as operands
use Rattle.ent_tree.specs.declared.operand.Test.{Test}
use Rattle.ent_tree.specs.declared.operand.ValueSpecification.{ValueSpecification}
use Rattle.ent_tree.specs.declared.operand.ValueSpecification.TheVariants as specifications
use Rattle.ent_semantics.specs.declared.operand.Known.{Known}
use Rattle.ent_semantics.specs.declared.operand.Known.TheVariants as known
use Rattle.ent_semantics.specs.declared.operand.Operand.{Operand as ResolvedOperand}
use Rattle.ent_semantics.specs.declared.operand.Operand.TheVariants as resolved
use Rattle.ent_form.specs.declared.fault.FormFault.{FormFault}
use Rattle.ent_form.specs.declared.fault.FormFault.TheVariants.{WrongKind, NoHostVariable}
use Rattle.ent_form.specs.Kinds.{Bound}
use Rattle.ent_form.specs.Scope.{Scope, column_in}
use Rattle.ent_form.specs.Steps.{there, demand}

-- the form and the kind of a term, or the fault where it isn't there; and where it stands
pub record Lookup (A B : Type 0) : Type 0 where
  pub find : A → Result (B × Kind) FormFault
  pub place : A → ℕ

-- a value that is written, or a host variable that is bound
abbrev pub value_in : Bound → ValueSpecification → Result (Known × Kind) FormFault
value_in bound (specifications.Literal literal) = Ok (known.Constant literal.value, kind_of literal.value)
value_in bound (specifications.HostVariable variable) =
    there (bound variable.name) (NoHostVariable variable.place) >>= λ kind. Ok (known.HostVariable variable.name, kind)

abbrev pub values_in : Bound → Lookup ValueSpecification Known
values_in bound = record { find = value_in bound; place = value_place }

-- a column stands where its qualifier does, if it has one
abbrev pub reference_place : ColumnReference → ℕ
reference_place reference = qualifier_or reference.qualifier reference.column.place
  where
    qualifier_or : Option Identifier → ℕ → ℕ
    qualifier_or (Some qualifier) place = qualifier.place
    qualifier_or None place = place

abbrev pub operand_place : Operand → ℕ
operand_place (operands.Value value) = value_place value
operand_place (operands.Column reference) = reference_place reference

-- a value, or a column of the sources
abbrev pub operand_in : Scope → Bound → Operand → Result (ResolvedOperand Known × Kind) FormFault
operand_in scope bound (operands.Value value) =
    value_in bound value >>= λ value. Ok (resolved.Known value.0, value.1)
operand_in scope bound (operands.Column reference) =
    column_in scope reference >>= λ column. Ok (resolved.Column column.0, column.1)

abbrev pub operands_in : Scope → Bound → Lookup Operand (ResolvedOperand Known)
operands_in scope bound = record { find = operand_in scope bound; place = operand_place }

-- where an expression stands: where its first term does
abbrev pub expression_place : {A : Type 0} → (A → ℕ) → Expression A → ℕ
expression_place place (Single term) = place term
expression_place place (Sum left right) = place left
expression_place place (Difference left right) = place left

module _ {A B : Type 0} where
  -- a term of any kind
  abbrev pub term_in : Lookup A B → A → Result B FormFault
  term_in lookup term = lookup.find term >>= λ found. Ok found.0

  -- a term of this kind
  abbrev pub kind_in : Lookup A B → Kind → A → Result B FormFault
  kind_in lookup wanted term =
      lookup.find term >>= λ found. demand (same_kind wanted found.1) (WrongKind (lookup.place term)) (Ok found.0)

  -- both sides are looked up before their kinds are compared
  unfoldable pub test_in : Lookup A B → Test A → Result (Test B) FormFault
  test_in lookup test =
      lookup.find test.left >>= λ left.
      lookup.find test.right >>= λ right.
      demand (same_kind left.1 right.1) (WrongKind (lookup.place test.right))
      (Ok (record { left = left.0; comparison = test.comparison; right = right.0 }))

  -- a term alone, of any kind; the terms of a sum or a difference, one after the other, are numbers
  abbrev pub expression_in : Lookup A B → Expression A → Result (Expression B × Kind) FormFault
  expression_in lookup (Single term) = lookup.find term >>= λ found. Ok (Single found.0, found.1)
  expression_in lookup (Sum left right) =
      kind_in lookup kinds.Int left >>= λ left.
      kind_in lookup kinds.Int right >>= λ right.
      Ok (Sum left right, kinds.Int)
  expression_in lookup (Difference left right) =
      kind_in lookup kinds.Int left >>= λ left.
      kind_in lookup kinds.Int right >>= λ right.
      Ok (Difference left right, kinds.Int)
