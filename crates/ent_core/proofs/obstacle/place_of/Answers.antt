use Rattle.std.proofs.Common.{◌≡◌, ◌∙◌, List, ap, refl, subst, sym}
use Rattle.ent_semantics.specs.Pool.{Posted}
use Rattle.ent_match.specs.Demand.{IsDemand}
use Rattle.ent_protocol.specs.Member.{is_prepared, pool}
use Rattle.ent_protocol.specs.State.{State}
use Rattle.ent_match.specs.Place.{HasNoneOf}
use Rattle.ent_core.specs.Obstacle.{IsOf}
use Rattle.ent_core.specs.contracts.store.Store.{the_view}
use Rattle.ent_core.proofs.obstacle.place_of.Goals as goal

pub returns-in-Some-clause-stands : goal.returns-in-Some-clause-stands
returns-in-Some-clause-stands c =
    let kept : pool c.args.store.now ≡ c.store.inside.pool =
    ap pool (sym c.store.view_is) ∙ c.store.invariant.0.posted (the_view c.store.inside) refl refl in
    let query = c.in-Some.query.now in
    record {
      query = query;
      own = subst (λ (posted : List Posted). IsOf posted c.args.tx query) (sym (kept ∙ sym c.members.ensures.members))
          c.in-Some.ensures;
      fares = subst (λ (posted : List Posted). IsDemand posted query c.demand_of.result)
          (sym (kept ∙ sym c.members-in-Some.ensures.members)) c.demand_of.ensures;
    }

pub returns-then-is_prepared-clause-stands : goal.returns-then-is_prepared-clause-stands
returns-then-is_prepared-clause-stands c =
    let s : State = the_view c.store.inside in
    ap (λ (x : State). is_prepared x c.args.tx) (sym c.store.view_is) ∙ sym (c.is_prepared.ensures.prepared s)
    ∙ c.if-is_prepared.true

pub returns-clause-stands : goal.returns-clause-stands
returns-clause-stands c =
    let s : State = the_view c.store.inside in
    let all : pool c.args.store.now ≡ c.members.result.now =
    ap pool (sym c.store.view_is) ∙ c.store.invariant.0.posted s refl refl ∙ sym c.members.ensures.members in (
      subst (λ (posted : List Posted). HasNoneOf posted c.args.tx) (sym all) c.in_default.ensures,
      ap (λ (x : State). is_prepared x c.args.tx) (sym c.store.view_is) ∙ sym (c.is_prepared.ensures.prepared s)
          ∙ c.if-is_prepared.false,
    )
