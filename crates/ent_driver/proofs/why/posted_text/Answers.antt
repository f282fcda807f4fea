use Rattle.std.proofs.Common.{◌≡◌, ◌<◌, length, subst}
use Rattle.ent_semantics.specs.Pool.{Posted}
use Rattle.ent_sched.specs.Passed.{resolved_forms}
use Rattle.ent_match.specs.Demand.{IsDemand}
use Rattle.ent_match.specs.declared.demand.Demand.{Demand}
use Rattle.ent_protocol.specs.Member.{pool}
use Rattle.ent_driver.proofs.OneQuery.{one_query}
use Rattle.ent_driver.proofs.why.posted_text.Goals as goal

pub demand_text-requires : goal.demand_text-requires
demand_text-requires c = λ index is.
    let s = c.args.core.now in
    let fares = c.requires.fares in
    let query = c.in-Some.query.now in
    let same : fares.query ≡ query =
    one_query s (c.members_stand_by_number.ensures resolved_forms s c.is_reached.ensures.reached) c.args.tx fares.query
    query fares.own c.in-Some.ensures in
    let unmet = subst (λ (demand : Demand). IsDemand (pool s) fares.query demand) is fares.fares in
    subst (λ (one : Posted). index < length one.statement.posts) same unmet.0

pub returns : goal.returns
returns c =
    let s = c.args.core.now in
    let fares = c.requires.fares in
    let query = c.in-Some.query.now in
    let same : fares.query ≡ query =
    one_query s (c.members_stand_by_number.ensures resolved_forms s c.is_reached.ensures.reached) c.args.tx fares.query
    query fares.own c.in-Some.ensures in (
      query,
      c.in-Some.ensures,
      subst (λ (one : Posted). IsDemand (pool s) one c.args.demand.now) same fares.fares,
      c.in_ok-words.ensures,
    )
