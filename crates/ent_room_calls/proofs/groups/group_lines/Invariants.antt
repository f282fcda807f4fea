use Rattle.std.proofs.Common.{◌≡◌, ◌++◌, drop}
use Rattle.ent_room_calls.specs.Groups.{group_lines}
use Rattle.ent_room_calls.proofs.groups.group_lines.Given as goal

-- what is out, and the lines of the groups that are left
abbrev pub invariant-loop-group : goal.invariant-loop-group
invariant-loop-group l = l.lines.items ++ group_lines (drop l.group-index l.groups) ≡ group_lines l.groups
