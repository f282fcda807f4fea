use Rattle.std.proofs.Common.{◌≡◌, ℕ, ◌≤◌, refl, sym, subst}
use Rattle.std.specs.Prelude.{slice_index}
use Rattle.std.proofs.lemmas.Option.{IfSome_then}
use Rattle.ent_group.specs.Cycle.{IsCycle, IsOnCycle}
use Rattle.ent_group.proofs.CycleWalk.{on_cycle_waiter}
use Rattle.ent_group.proofs.waits.cycle.Goals as goal

pub returns-in_err-first-clause-none : goal.returns-in_err-first-clause-none
returns-in_err-first-clause-none c = λ _. c.in_err-first.ensures.none refl

pub cycle_from-requires-clause-waits : goal.cycle_from-requires-clause-waits
cycle_from-requires-clause-waits c = on_cycle_waiter c.args.pairs.now c.in_ok-first.first c.in_ok-first.ensures.found

pub returns-clause-greatest : goal.returns-clause-greatest
returns-clause-greatest c =
    let pairs = c.args.pairs.now in
    let first = c.in_ok-first.first in
    IfSome_then c.cycle_from.result {P = λ members. IsCycle pairs members × (slice_index members 0 ≡ first)}
    {Q = λ members. (x : ℕ) → IsOnCycle pairs x → x ≤ slice_index members 0} c.cycle_from.ensures.found
    (λ members found x found_cycle. subst (λ (v : ℕ). x ≤ v) (sym found.1)
    (c.in_ok-first.ensures.greatest x found_cycle))
