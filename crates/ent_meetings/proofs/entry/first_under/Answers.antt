use Rattle.ent_meetings.proofs.EntryOrder.{none_found, other_key, from_first, has_first, none_before}
use Rattle.ent_meetings.proofs.entry.first_under.Goals as goal

pub returns-in_err-first : goal.returns-in_err-first
returns-in_err-first c =
    let none = none_found c.args.entries.now c.args.key c.args.from c.range.result (c.range.ensures.in_range tt)
    c.in_err-first.ensures.steps.0 in
    rw c.from_residual.ensures none

pub returns-then-first-key : goal.returns-then-first-key
returns-then-first-key c =
    let range = c.range.ensures.in_range tt in
    let begins = c.in_ok-first.ensures.steps in (
      from_first _ _ _ _ range _ _ begins c.if-first-key.true,
      has_first _ _ _ _ range _ _ begins c.if-first-key.true,
      none_before _ _ _ _ range _ _ begins c.if-first-key.true,
    )

pub returns-else-first-key : goal.returns-else-first-key
returns-else-first-key c =
    let range = c.range.ensures.in_range tt in
    other_key _ _ _ _ range _ _ c.in_ok-first.ensures.steps c.if-first-key.false
