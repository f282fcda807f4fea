use Rattle.std.proofs.Common.{List, sym, subst}
use Rattle.ent_semantics.specs.Pool.{Posted}
use Rattle.ent_match.specs.Components.{AreFirstPlaces}
use Rattle.ent_match.proofs.pool.Pool.components.Goals as goal

pub components_by-requires-clause-firsts : goal.components_by-requires-clause-firsts
components_by-requires-clause-firsts c =
    subst (AreFirstPlaces c.members.result.now) (sym c.as_slice.ensures.value)
    (subst (λ (pool : List Posted). AreFirstPlaces pool c.in_ok-firsts.firsts.items)
    (sym c.members.ensures.members) c.in_ok-firsts.ensures)
