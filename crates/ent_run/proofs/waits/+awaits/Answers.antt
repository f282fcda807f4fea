use Rattle.std.proofs.Common.{◌≡◌, true, false, List, sym, ap, subst, ◌∙◌}
use Rattle.std.specs.List.{list_any}
use Rattle.ent_lock.specs.declared.mode.Mode.{Mode}
use Rattle.ent_protocol.specs.State.{Use}
use Rattle.ent_run.specs.Passing.{passes}
use Rattle.ent_run.specs.Waits.{IsMadeToWait, makes_wait}
use Rattle.ent_run.proofs.MadeToWait.{AreHolders, by_first, by_others, not_by_first}
use Rattle.ent_run.proofs.waits.+awaits.Goals as goal

pub returns-then-some_make_wait : goal.returns-then-some_make_wait
returns-then-some_make_wait t c =
    let locks = c.args.locks.now in
    let asker = c.args.asker.now in
    let groups = c.args.groups.now in
    let group = c.args.group in
    let other = c.args.other.now in
    let first = c.in-Some.first.now in
    let rest = c.in-Some.rest.now in
    let holders = c.holders-holders.result.now in
    let are : AreHolders locks first holders =
    λ tx mode. rw (sym c.table.ensures) (c.holders-holders.ensures tx mode) in
    let any : list_any (makes_wait first.mode asker groups group other) holders ≡ true =
    ap (λ (mode : Mode). list_any (makes_wait mode asker groups group other) holders) (sym c.mode.ensures)
    ∙ sym c.some_make_wait.ensures ∙ c.if-some_make_wait.true in (
      λ _. subst (λ (asked : List Use). IsMadeToWait locks groups asked (passes asker) group other)
          (sym c.in-Some.ensures.cases.0)
          (by_first locks groups asker group other first rest holders are any),
      λ _. c.if-some_make_wait.true,
    )

pub returns-else-some_make_wait : goal.returns-else-some_make_wait
returns-else-some_make_wait t c =
    let locks = c.args.locks.now in
    let asker = c.args.asker.now in
    let groups = c.args.groups.now in
    let group = c.args.group in
    let other = c.args.other.now in
    let first = c.in-Some.first.now in
    let rest = c.in-Some.rest.now in
    let holders = c.holders-holders.result.now in
    let are : AreHolders locks first holders =
    λ tx mode. rw (sym c.table.ensures) (c.holders-holders.ensures tx mode) in
    let none : list_any (makes_wait first.mode asker groups group other) holders ≡ false =
    ap (λ (mode : Mode). list_any (makes_wait mode asker groups group other) holders) (sym c.mode.ensures)
    ∙ sym c.some_make_wait.ensures ∙ c.if-some_make_wait.false in (
      λ yes. subst (λ (asked : List Use). IsMadeToWait locks groups asked (passes asker) group other)
          (sym c.in-Some.ensures.cases.0) (by_others locks groups asker group other first rest
          (c.awaits.ensures.0 yes)),
      λ made. c.awaits.ensures.1 (not_by_first locks groups asker group other first rest holders are none
          (subst (λ (asked : List Use). IsMadeToWait locks groups asked (passes asker) group other)
          c.in-Some.ensures.cases.0
          made)),
    )
