use Rattle.std.proofs.Common.{◌≡◌, ℕ, ◌+◌, List, length, refl, sym, subst, ◌↔◌, arith}
use Rattle.ent_group.specs.Marks.{IsMarked}
use Rattle.ent_group.specs.Reach.{AreInPair}
use Rattle.std.proofs.lemmas.List.{take_all}
use Rattle.ent_group.proofs.Walks.{Reaching, no_rows, more_rows, reaching_start, reaching_more, reaching_end}
use Rattle.ent_group.proofs.waits.reach_of.Goals as goal

pub loop-waiter-init : goal.loop-waiter-init
loop-waiter-init c = λ i j. no_rows c.args.waiters.now i j

pub loop-waiter-preserved : goal.loop-waiter-preserved
loop-waiter-preserved c =
    more_rows c.args.pairs.now c.args.waiters.now c.loop-waiter.rows c.mark_pair.new.rows c.loop-waiter.waiter-index _ _
    c.loop-waiter-test.true refl c.loop-waiter.invariant c.mark_pair.ensures

pub loop-middle-init : goal.loop-middle-init
loop-middle-init c =
    let waiters = c.args.waiters.now in
    let rows = c.loop-waiter.rows in
    reaching_start c.args.pairs.now waiters rows
    (subst (λ (waits : List (ℕ × ℕ)). (i j : ℕ) → IsMarked rows i j ↔ AreInPair waits waiters i j)
    (take_all c.loop-waiter.waiter-index c.args.pairs.now c.loop-waiter-test.false) c.loop-waiter.invariant)

pub loop-middle-preserved : goal.loop-middle-preserved
loop-middle-preserved c =
    subst (λ (rows : List ℕ). Reaching c.args.pairs.now c.args.waiters.now rows (c.loop-middle.middle + 1))
    (sym c.join_over.ensures)
    (reaching_more c.args.pairs.now c.args.waiters.now c.loop-middle.rows c.loop-middle.middle c.loop-middle.invariant)

pub returns : goal.returns
returns c =
    let waiters = c.args.waiters.now in
    let whole : c.loop-middle.middle ≡ length waiters = omega arith in
    reaching_end c.args.pairs.now waiters c.loop-middle.rows c.requires
    (subst (Reaching c.args.pairs.now waiters c.loop-middle.rows) whole c.loop-middle.invariant)
