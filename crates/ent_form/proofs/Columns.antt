-- Columns of a table, and rows of values side by side with them.
use Rattle.std.specs.Prelude.{if◌then◌else◌}
use Rattle.std.specs.Option.{option_map_or}
use Rattle.std.proofs.Common.{◌≡◌, ℕ, suc, ◌+◌, ◌<◌, Bool, true, false, List, [], ◌∷◌, length, Some, Result, Ok, ◌⊎◌}
use Rattle.std.proofs.Common.{inl, inr, refl, sym, ap, arith, Option}
use Rattle.ent_value.specs.declared.value.Kind.{Kind}
use Rattle.ent_tree.specs.declared.entangled.Term.{Term as TreeTerm}
use Rattle.ent_tree.specs.declared.operand.ValueSpecification.{ValueSpecification}
use Rattle.ent_semantics.specs.declared.entangled.Term.{Term}
use Rattle.ent_semantics.specs.declared.operand.Known.{Known}
use Rattle.ent_semantics.specs.Database.{Name, same_name}
use Rattle.ent_form.specs.declared.catalogue.ColumnSchema.{ColumnSchema}
use Rattle.ent_form.specs.declared.fault.FormFault.{FormFault}
use Rattle.ent_form.specs.Catalogue.{column_from, column_named}
use Rattle.ent_form.specs.Entangled.{members_from}
use Rattle.ent_form.specs.Kinds.{Bound}
use Rattle.ent_form.specs.Ordinary.{row_from, own_from}

first_same : (x y : ℕ × Kind) → Some x ≡ Some y → x.0 ≡ y.0
first_same x y e = ap (λ (found : Option (ℕ × Kind)). option_map_or (λ (pair : ℕ × Kind). pair.0) found x.0) e

-- a column that is found stands among the columns
column_within_from : (number : ℕ) (columns : List ColumnSchema) (name : Name) (found : ℕ) (kind : Kind)
    → Some (found, kind) ≡ column_from number columns name → found < number + length columns
column_within_from number [] name found kind e = cc
column_within_from number (column ∷ columns) name found kind e =
    elim (same_name column.name name) as
    (λ (b : Bool). Some (found, kind) ≡ (if b then Some (number, column.kind) else column_from (suc number) columns
    name)
    → found < number + length (column ∷ columns)) [
      | true ↦ λ here.
          let same : found ≡ number = first_same (found, kind) (number, column.kind) here in omega arith
      | false ↦ λ later. let within = column_within_from (suc number) columns name found kind later in omega arith
    ] e

pub column_within : (columns : List ColumnSchema) (name : Name) (found : ℕ) (kind : Kind)
    → Some (found, kind) ≡ column_named columns name → found < length columns
column_within columns name found kind e =
    let within = column_within_from 0 columns name found kind e in omega arith

pub own_length_from : (number : ℕ) (columns : List ColumnSchema) → length (own_from number columns) ≡ length columns
own_length_from number [] = refl
own_length_from number (column ∷ columns) = ap suc (own_length_from (suc number) columns)

pub own_length : (columns : List ColumnSchema) → length (own_from 0 columns) ≡ length columns
own_length columns = own_length_from 0 columns

-- where columns or values end the row is made
pub row_end : (bound : Bound) (made : List Known) (columns : List ColumnSchema) (values : List ValueSpecification)
    → (total : Result (List Known) FormFault) → (columns ≡ []) ⊎ (values ≡ [])
    → row_from bound made columns values ≡ total → total ≡ Ok made
row_end bound made [] values total h e = sym e
row_end bound made (column ∷ columns) [] total h e = sym e
row_end bound made (column ∷ columns) (value ∷ values) total (inl h) e = cc
row_end bound made (column ∷ columns) (value ∷ values) total (inr h) e = cc

-- where kinds or terms end the tuple is made
pub members_end : (names : List Name) (bound : Bound) (made : List (Term Known)) (demanded : Bound) (kinds : List Kind)
    → (terms : List TreeTerm) (total : Result (List (Term Known) × Bound) FormFault) → (kinds ≡ []) ⊎ (terms ≡ [])
    → members_from names bound made demanded kinds terms ≡ total → total ≡ Ok (made, demanded)
members_end names bound made demanded [] terms total h e = sym e
members_end names bound made demanded (kind ∷ kinds) [] total h e = sym e
members_end names bound made demanded (kind ∷ kinds) (term ∷ terms) total (inl h) e = cc
members_end names bound made demanded (kind ∷ kinds) (term ∷ terms) total (inr h) e = cc
