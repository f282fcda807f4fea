-- The coordinating choices are the groundings of a plan.
use Rattle.std.proofs.Common.{List, [], ◌∷◌, refl, sym, subst}
use Rattle.std.specs.Prelude.{◌↔◌}
use Rattle.ent_semantics.specs.Entangled.{Valuation}
use Rattle.ent_semantics.specs.Form.{Tables}
use Rattle.ent_semantics.specs.Choice.{AreGroundings, IsChoice}
use Rattle.ent_semantics.specs.Pool.{Posted}
use Rattle.ent_plan.specs.Plan.{Plan, IsPlan, AreKindedFor, IsGroundedSpread}

-- groundings are of the variables' kinds
pub are_kinded : (tables : Tables) (members : List Posted) (groundings : List Valuation)
    → AreGroundings tables members groundings → AreKindedFor members groundings
are_kinded tables [] [] are = refl
are_kinded tables [] (values ∷ more) are = absurd are
are_kinded tables (member ∷ members) [] are = absurd are
are_kinded tables (member ∷ members) (values ∷ more) are =
    let first = are.0.kinds in
    let rest = are_kinded tables members more are.1 in
    λ i. first i ∷ rest i

to_spread : (tables : Tables) (plan : Plan) (groundings : List Valuation) → IsPlan plan
    → IsChoice tables plan.members groundings → IsGroundedSpread tables plan groundings
to_spread tables plan groundings is choice =
    let found = (is.exact groundings (are_kinded tables plan.members groundings choice.grounded)).0 choice.met in
    (found.0, found.1, found.2, subst (AreGroundings tables plan.members) found.2 choice.grounded)

from_spread : (tables : Tables) (plan : Plan) (groundings : List Valuation) → IsPlan plan
    → IsGroundedSpread tables plan groundings → IsChoice tables plan.members groundings
from_spread tables plan groundings is (values, kinds, same, grounded) =
    let are : AreGroundings tables plan.members groundings =
    subst (AreGroundings tables plan.members) (sym same) grounded in
    record {
      grounded = are;
      met = (is.exact groundings (are_kinded tables plan.members groundings are)).1 (values, kinds, same);
    }

pub choices : (tables : Tables) (plan : Plan) (groundings : List Valuation) → IsPlan plan
    → IsChoice tables plan.members groundings ↔ IsGroundedSpread tables plan groundings
choices tables plan groundings is =
    (to_spread tables plan groundings is, from_spread tables plan groundings is)
