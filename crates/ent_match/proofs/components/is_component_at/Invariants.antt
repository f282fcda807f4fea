use Rattle.std.proofs.Common.{◌≤◌, length, map}
use Rattle.ent_match.specs.Components.{begins_at, component_at}
use Rattle.ent_match.proofs.Rests.{Decides, rest_of}
use Rattle.ent_match.proofs.components.is_component_at.Given as goal

-- the statements from here on decide
abbrev pub invariant-loop-i : goal.invariant-loop-i
invariant-loop-i l = record {
  within : l.count ≤ length l.asked;
  decides : Decides (rest_of (map (begins_at l.place) l.firsts) l.i l.members) l.count l.asked
      (component_at l.firsts l.place l.members);
}
