use Rattle.std.proofs.Common.{◌≡◌, ◌++◌, drop}
use Rattle.ent_meet.specs.Text.{tickets_in}
use Rattle.ent_meet.proofs.text.tickets_in.Given as goal

-- the tickets so far, and those of what is left
abbrev pub invariant-loop-group : goal.invariant-loop-group
invariant-loop-group l =
    l.tickets.items ++ tickets_in l.epoch (drop l.group-index l.groups) ≡ tickets_in l.epoch l.groups
