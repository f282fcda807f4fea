use Rattle.std.proofs.Common.{rules}
use Rattle.std.proofs.lemmas.Fn.{always_returns_same}
use Rattle.std.proofs.lemmas.Map.Lookups.{exact_unsigned}
use Rattle.ent_semantics.specs.Pool.{Posted}
use Rattle.ent_match.proofs.Searched.{nowhere}
use Rattle.ent_match.proofs.place.place_by_number.Goals as goal

pub returns-in-Ok : goal.returns-in-Ok
returns-in-Ok c =
    let here = c.in-Ok.ensures.position (λ (m : Posted). m.tx)
    (always_returns_same _ _ _ (λ a r f called. search rules)) in
    (c.in-Ok.ensures.bound, λ d. exact_unsigned _ _ (here d))

pub returns-in-Err : goal.returns-in-Err
returns-in-Err c =
    nowhere c.args.members.now c.args.tx c.in-Err.field-0 c.requires
    (c.in-Err.ensures.position (λ (m : Posted). m.tx) (always_returns_same _ _ _ (λ a r f called. search rules)))
