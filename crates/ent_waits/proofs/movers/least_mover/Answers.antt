use Rattle.std.proofs.Common.{◌+◌, ◌<◌, ◌≤◌, ℕ, List, Option, length, take, refl, sym, subst, arith}
use Rattle.std.specs.Prelude.{Contains}
use Rattle.ent_semantics.specs.Pool.{Posted}
use Rattle.ent_lock.specs.Use.{IsLeastIfAny}
use Rattle.ent_run.proofs.LeastOf.{least_same}
use Rattle.ent_protocol.specs.Quiet.{CanMove}
use Rattle.ent_match.specs.Place.{HasNoneOf}
use Rattle.ent_waits.specs.Movers.{IsMover}
use Rattle.ent_waits.specs.Waits.{nothing, state_with}
use Rattle.ent_waits.proofs.Posting.{none_of_unposted}
use Rattle.ent_waits.proofs.Smallest.{least_more, least_nil, least_whole}
use Rattle.ent_waits.proofs.WouldMove.{HasMoverIn, can_move, has_mover}
use Rattle.ent_waits.proofs.movers.least_mover.Goals as goal

pub loop-place-init : goal.loop-place-init
loop-place-init c = λ s. least_nil (IsMover (state_with c.args.run.now c.args.submitted.now c.args.lent.now s))

pub mover_of-requires : goal.mover_of-requires
mover_of-requires c unposted =
    let here = state_with c.args.run.now c.args.submitted.now c.args.lent.now nothing in
    let members = c.args.run.now.active in
    let member = c.at-member.result in
    let below : c.loop-place.place < length members = omega arith in
    let is_in : Contains members member = (c.loop-place.place, below, sym (c.at-member.ensures member)) in
    subst (λ (posted : List Posted). HasNoneOf posted member.tx) (c.requires here refl refl)
    (none_of_unposted here c.active_len-place-end.ensures.distinct member is_in unposted)

pub loop-place-preserved : goal.loop-place-preserved
loop-place-preserved c = λ s.
    let here = state_with c.args.run.now c.args.submitted.now c.args.lent.now s in
    let members = c.args.run.now.active in
    let at = c.loop-place.place in
    let member = c.at-member.result in
    let below : at < length members = omega arith in
    subst (λ (least : Option ℕ). IsLeastIfAny (HasMoverIn here (take (at + 1) members)) least)
    (sym c.lesser-least.ensures)
    (least_more (IsMover here) members at member c.loop-place.least c.in_ok-own.own below (c.at-member.ensures member)
    (c.loop-place.invariant s) (c.in_ok-own.ensures s (c.requires here refl refl)))

pub returns : goal.returns
returns c = λ s.
    let here = state_with c.args.run.now c.args.submitted.now c.args.lent.now s in
    let members = c.args.run.now.active in
    let at = c.loop-place.place in
    let least = c.loop-place.least in
    let gone : length members ≤ at = omega arith in
    least_same (HasMoverIn here members) (CanMove here) least (can_move here) (has_mover here)
    (least_whole (IsMover here) members at least gone (c.loop-place.invariant s))
