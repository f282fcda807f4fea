use Rattle.std.proofs.Common.{ℕ, List, refl, sym, subst}
use Rattle.std.specs.Prelude.{All, Contains}
use Rattle.ent_group.specs.Reach.{IsClosed}
use Rattle.std.proofs.lemmas.List.Elements.{Contains-get_or, All-contains}
use Rattle.ent_group.proofs.CycleWalk.{on_cycle_next, searching_end, past_end}
use Rattle.ent_group.proofs.waits.cycle_from.Goals as goal

pub returns-in_err-second-clause-none : goal.returns-in_err-second-clause-none
returns-in_err-second-clause-none c = λ _ found_cycle.
    let pairs = c.args.pairs.now in
    let first = c.args.first in
    let reached : List ℕ = c.loop-awaited.reached in
    let inv = c.loop-awaited.invariant in
    let closed : IsClosed pairs reached = searching_end pairs first reached c.loop-awaited.next inv
    (past_end reached c.loop-awaited.next (sym c.in_default.ensures)) in
    let inside : Contains reached first =
    subst (Contains reached) inv.begins (Contains-get_or reached 0 0 inv.reach.not_empty) in
    let next = on_cycle_next pairs reached closed found_cycle.0 first found_cycle.1 found_cycle.2 inside in
    All-contains (λ y. ¬ Contains pairs (first, y)) reached next.0
    (subst (λ (ms : List ℕ). All (λ y. ¬ Contains pairs (first, y)) ms) c.as_slice.ensures.list
    (c.in_err-second.ensures.none refl)) next.2 next.1
