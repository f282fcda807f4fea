use Rattle.std.proofs.Common.{◌+◌, sym, subst, ◌∙◌, true≢false}
use Rattle.std.specs.Prelude.{slice_index}
use Rattle.ent_group.proofs.Walks.{GreatestUpto, walk_on_cycle, on_cycle_walk, greatest_more, greatest_same}
use Rattle.ent_group.proofs.Walks.{greatest_of_all, none_of_all}
use Rattle.ent_group.proofs.waits.greatest_on_cycle.Goals.{then-has_mark, else-has_mark}
use Rattle.ent_group.proofs.waits.greatest_on_cycle.Goals as goal

pub loop-i-preserved : goal.loop-i-preserved
loop-i-preserved c =
    let pairs = c.args.pairs.now in
    let waiters = c.args.waiters.now in
    let i = c.loop-i.i in
    let x = slice_index waiters i in
    let reach = c.reach_of-rows.ensures i i c.loop-i-test.true c.loop-i-test.true in
    elim c.if-has_mark.branch [
      | then-has_mark w ↦
          subst (GreatestUpto pairs waiters (i + 1)) (sym (w.greatest-is ∙ w.greater-greatest.ensures))
          (greatest_more pairs waiters i c.loop-i.greatest
          (walk_on_cycle pairs x (reach.0 (sym c.has_mark.ensures ∙ w.if-has_mark.true))) c.loop-i.invariant)
      | else-has_mark w ↦
          subst (GreatestUpto pairs waiters (i + 1)) (sym w.greatest-is)
          (greatest_same pairs waiters i c.loop-i.greatest
          (λ found_cycle. true≢false (sym (reach.1 (on_cycle_walk pairs x found_cycle)) ∙ sym c.has_mark.ensures
          ∙ w.if-has_mark.false)) c.loop-i.invariant)
    ]

pub returns-clause-greatest : goal.returns-clause-greatest
returns-clause-greatest c = greatest_of_all c.args.pairs.now c.args.waiters.now c.loop-i.i c.loop-i.greatest c.requires
    c.loop-i-test.false c.loop-i.invariant

pub returns-clause-none : goal.returns-clause-none
returns-clause-none c = none_of_all c.args.pairs.now c.args.waiters.now c.loop-i.i c.loop-i.greatest c.requires
    c.loop-i-test.false c.loop-i.invariant
