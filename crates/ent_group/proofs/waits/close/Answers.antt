use Rattle.std.proofs.Common.{◌≡◌, ℕ, ◌<◌, List, sym, subst, arith}
use Rattle.std.specs.Prelude.{Contains, slice_index}
use Rattle.ent_group.proofs.CycleWalk.{Closing, closing_more, closing_end, awaited_place}
use Rattle.ent_group.proofs.waits.close.Goals as goal

next : (c : goal.After-unwrap_or-at) → (c.unwrap_or-at.result < c.loop-at.at) × Contains c.args.pairs.now
    (slice_index c.args.reached.now c.loop-at.at, slice_index c.args.reached.now c.unwrap_or-at.result)
next c =
    let led = c.requires.reach.led c.loop-at.at c.loop-at-test.true c.loop-at.invariant.place in
    let place = awaited_place c.args.pairs.now c.args.reached.now (slice_index c.args.reached.now c.loop-at.at)
    c.loop-at.at led.0 c.place_awaited.result led.1 c.loop-at.invariant.place led.2
    c.place_awaited.ensures.some c.place_awaited.ensures.none in
    subst (λ (i : ℕ). (i < c.loop-at.at) × Contains c.args.pairs.now
    (slice_index c.args.reached.now c.loop-at.at, slice_index c.args.reached.now i)) (sym c.unwrap_or-at.ensures)
    place

pub loop-at-preserved : goal.loop-at-preserved
loop-at-preserved c =
    subst (λ (members : List ℕ). Closing c.args.pairs.now c.args.reached.now members c.unwrap_or-at.result)
    (sym c.push.ensures)
    (closing_more c.args.pairs.now c.args.reached.now c.loop-at.members c.loop-at.at c.unwrap_or-at.result
    c.requires.reach c.loop-at.invariant c.loop-at-test.true (next c).0 (next c).1)

pub returns-clause-cycle : goal.returns-clause-cycle
returns-clause-cycle c =
    let done : c.loop-at.at ≡ 0 = omega (arith, c.loop-at-test.false) in
    closing_end c.args.pairs.now c.args.reached.now c.loop-at.members
    (subst (Closing c.args.pairs.now c.args.reached.now c.loop-at.members) done c.loop-at.invariant)
