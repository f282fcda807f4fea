use Rattle.std.proofs.Common.{◌≡◌, drop}
use Rattle.std.specs.List.{list_any}
use Rattle.ent_run.specs.Grouped.{is_labelled_among}
use Rattle.ent_run.proofs.groups.any_labelled_among.Given as goal

-- none so far
abbrev pub invariant-loop-own : goal.invariant-loop-own
invariant-loop-own l =
    list_any (is_labelled_among l.group l.members) (drop l.own-index l.memberships)
    ≡ list_any (is_labelled_among l.group l.members) l.memberships
