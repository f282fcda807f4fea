use Rattle.std.proofs.Common.{◌≡◌, ◌+◌, ◌-◌, nat_eq}
use Rattle.indexmap.specs.IndexMap.{IsReordered}
use Rattle.ent_members.specs.TransactionOrder.{part_reversed}
use Rattle.ent_members.proofs.order.reverse_part.Given as goal

-- what is left to be reversed makes the whole
abbrev pub invariant-loop-step : goal.invariant-loop-step
invariant-loop-step l = IsReordered nat_eq l.fn.order l.order
    × (part_reversed (l.start + l.step) (l.end - l.step) l.order.entries
    ≡ part_reversed l.start l.end l.fn.order.entries)
