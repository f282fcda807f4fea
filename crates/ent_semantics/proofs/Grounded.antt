-- Groundings of several statements.
use Rattle.std.proofs.Common.{◌≡◌, List, [], ◌∷◌, length, suc, refl, ap}
use Rattle.ent_semantics.specs.Entangled.{Valuation}
use Rattle.ent_semantics.specs.Form.{Tables}
use Rattle.ent_semantics.specs.Choice.{AreGroundings}
use Rattle.ent_semantics.specs.Pool.{Posted}

-- as many as there are statements
pub groundings_counted : (tables : Tables) (members : List Posted) (groundings : List Valuation)
    → AreGroundings tables members groundings → length groundings ≡ length members
groundings_counted tables [] [] are = refl
groundings_counted tables [] (values ∷ more) are = absurd are
groundings_counted tables (member ∷ members) [] are = absurd are
groundings_counted tables (member ∷ members) (values ∷ more) are =
    ap suc (groundings_counted tables members more are.1)
