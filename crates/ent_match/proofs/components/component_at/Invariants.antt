use Rattle.std.proofs.Common.{◌≡◌, ◌++◌, map}
use Rattle.ent_match.specs.Components.{begins_at, component_at}
use Rattle.ent_match.proofs.Rests.{rest_of}
use Rattle.ent_match.proofs.components.component_at.Given as goal

-- the statements so far, and those from here on
abbrev pub invariant-loop-i : goal.invariant-loop-i
invariant-loop-i l =
    l.component ++ rest_of (map (begins_at l.place) l.firsts) l.i l.members ≡ component_at l.firsts l.place l.members
