use Rattle.std.proofs.Common.{◌+◌, arith, sym, subst}
use Rattle.ent_waits.proofs.Stuck.{AreStuck, stuck_both, stuck_more, stuck_same}
use Rattle.ent_waits.proofs.cycle_search.still_stuck.Goals.{then-share_mark, else-share_mark}
use Rattle.ent_waits.proofs.cycle_search.still_stuck.Goals as goal

pub loop-place-init : goal.loop-place-init
loop-place-init c = λ i j below marked other. absurd (omega (arith, below))

pub loop-place-preserved : goal.loop-place-preserved
loop-place-preserved c =
    let rows = c.args.rows.now in
    let stuck = c.args.stuck in
    let at = c.loop-place.place in
    elim c.if-share_mark.branch [
      | then-share_mark w ↦
          subst (λ waiting. AreStuck rows stuck waiting (at + 1)) (sym w.waiting-is)
          (stuck_more rows stuck c.loop-place.waiting w.with_mark-waiting.result at w.with_mark-waiting.ensures
          c.loop-place.invariant)
      | else-share_mark w ↦
          subst (λ waiting. AreStuck rows stuck waiting (at + 1)) (sym w.waiting-is)
          (stuck_same rows stuck c.loop-place.waiting at c.share_mark.result w.if-share_mark.false c.share_mark.ensures
          c.loop-place.invariant)
    ]

pub returns : goal.returns
returns c = λ i j below own marked other.
    stuck_both c.args.rows.now c.args.stuck c.loop-place.waiting
    (λ k m under. c.loop-place.invariant k m (omega (arith, under)))
    i j below own marked other
