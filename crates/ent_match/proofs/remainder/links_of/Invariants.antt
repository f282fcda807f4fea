use Rattle.std.proofs.Common.{◌≡◌, ℕ, ◌<◌, length, get_or, false}
use Rattle.std.specs.Prelude.{Contains}
use Rattle.ent_match.specs.declared.link.Link.{Link}
use Rattle.ent_match.specs.Remainder.{IsLinkOf, IsAsked}
use Rattle.ent_match.proofs.remainder.links_of.Given as goal

-- the links of the statements so far are put down
abbrev pub invariant-loop-place : goal.invariant-loop-place
invariant-loop-place l = record {
  room : length l.removed.items ≡ l.place;
  sound : (link : Link) → Contains l.links.items link → IsLinkOf l.members link;
  asked : (place : ℕ) → place < l.place → IsAsked l.members l.links.items place (get_or l.removed.items place false);
}
