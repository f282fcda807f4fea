-- The unifier of statements' posts with heads.
use Rattle.std.specs.Prelude.{◌↔◌, List, map}
use Rattle.ent_value.specs.declared.value.Kind.{Kind}
use Rattle.ent_semantics.specs.Entangled.{Valuation}
use Rattle.ent_semantics.specs.Pool.{Posted}
use Rattle.ent_unify.specs.Unifier.{Agrees}
use Rattle.ent_unify.specs.declared.unifier.ClassBinding.{ClassBinding}
use Rattle.ent_plan.specs.Plan.{AreKindedFor, AreMet}

-- the kinds of each statement's variables
abbrev pub variables_of : List Posted → List (List Kind)
variables_of members = map (λ (member : Posted). member.statement.variables) members

-- values of the kinds make each post equal to a head exactly where they agree with the unifier, and there are such
pub record IsUnifierOf (members : List Posted) (bindings : List ClassBinding) : Type 0 where
  pub exact : (groundings : List Valuation) → AreKindedFor members groundings
      → AreMet members groundings ↔ Agrees (variables_of members) bindings groundings
  pub some : List Valuation
  pub of_kinds : AreKindedFor members some
  pub agrees : Agrees (variables_of members) bindings some
