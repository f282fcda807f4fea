use Rattle.std.proofs.Common.{◌≡◌, ℕ, List, subst, ◌∙◌}
use Rattle.std.specs.Prelude.{IfSome}
use Rattle.ent_group.specs.Cycle.{IsCycle, IsOnCycle}
use Rattle.ent_waits.specs.Waits.{gathered}
use Rattle.ent_waits.proofs.Gathered.{IsGreatest, found_deadlock, no_deadlock}
use Rattle.ent_waits.proofs.cycles.greatest_cycle.Goals as goal

pub returns-clause-found : goal.returns-clause-found
returns-clause-found c = λ s.
    let run = c.args.run.now in
    let submitted = c.args.submitted.now in
    let lent = c.args.lent.now in
    let found = c.cycle.result in
    let same : c.as_slice.result.now ≡ gathered run submitted lent =
    c.as_slice.ensures ∙ c.pairs_of-pairs.ensures.pairs in
    found_deadlock c.awaited_members_are_waited_for.ensures run submitted lent s found
    (subst (λ (pairs : List (ℕ × ℕ)). IfSome found (IsCycle pairs)) same c.cycle.ensures.found)
    (subst (λ (pairs : List (ℕ × ℕ)). IfSome found (IsGreatest pairs)) same c.cycle.ensures.greatest)

pub returns-clause-none : goal.returns-clause-none
returns-clause-none c = λ s none.
    let run = c.args.run.now in
    let submitted = c.args.submitted.now in
    let lent = c.args.lent.now in
    let same : c.as_slice.result.now ≡ gathered run submitted lent =
    c.as_slice.ensures ∙ c.pairs_of-pairs.ensures.pairs in
    no_deadlock c.awaited_members_are_waited_for.ensures run submitted lent s
    (subst (λ (pairs : List (ℕ × ℕ)). (x : ℕ) → ¬ (IsOnCycle pairs x)) same (c.cycle.ensures.none none))
