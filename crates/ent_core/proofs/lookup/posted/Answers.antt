use Rattle.std.proofs.Common.{◌≡◌, ◌∙◌, List, ap, refl, subst, sym}
use Rattle.std.specs.Prelude.{MatchOption}
use Rattle.ent_semantics.specs.Pool.{Posted}
use Rattle.ent_protocol.specs.Member.{pool}
use Rattle.ent_match.specs.Place.{HasNoneOf}
use Rattle.ent_core.specs.Obstacle.{IsOf}
use Rattle.ent_core.specs.contracts.store.Store.{the_view}
use Rattle.ent_core.proofs.lookup.posted.Goals as goal

pub returns : goal.returns
returns c =
    let all : pool c.args.store.now ≡ c.members.result.now =
    ap pool (sym c.store.view_is) ∙ c.store.invariant.0.posted (the_view c.store.inside) refl refl
    ∙ sym c.members.ensures.members in
    subst (λ (posted : List Posted). MatchOption c.posted_of.result (HasNoneOf posted c.args.tx)
    (λ query. IsOf posted c.args.tx query.now)) (sym all) c.posted_of.ensures
