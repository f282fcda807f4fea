use Rattle.std.proofs.Common.{◌≡◌, drop}
use Rattle.std.specs.List.{list_any}
use Rattle.ent_desk.specs.Drafts.{keeps_waiting}
use Rattle.ent_desk.proofs.draft.any_keeps_waiting.Given as goal

-- nobody who was passed keeps it waiting
abbrev pub invariant-loop-other : goal.invariant-loop-other
invariant-loop-other l =
    list_any (keeps_waiting l.core l.tx) (drop l.other-index l.group) ≡ list_any (keeps_waiting l.core l.tx) l.group
