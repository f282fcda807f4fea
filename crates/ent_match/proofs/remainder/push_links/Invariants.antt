use Rattle.std.proofs.Common.{ℕ, ◌<◌, ◌⊎◌}
use Rattle.std.specs.Prelude.{Contains}
use Rattle.ent_match.specs.declared.link.Link.{Link}
use Rattle.ent_match.specs.Remainder.{IsLinkOf, HasLink}
use Rattle.ent_match.proofs.remainder.push_links.Given as goal

-- the links of the posts so far are put down
abbrev pub invariant-loop-index : goal.invariant-loop-index
invariant-loop-index l = record {
  grows : (link : Link) → Contains l.fn.links.items link → Contains l.links.items link;
  sound : (link : Link) → Contains l.links.items link → Contains l.fn.links.items link ⊎ IsLinkOf l.members link;
  so_far : (index : ℕ) → index < l.index → HasLink l.members l.links.items l.place l.asker index;
}
