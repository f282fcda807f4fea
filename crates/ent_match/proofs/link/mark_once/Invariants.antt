use Rattle.std.proofs.Common.{take}
use Rattle.ent_match.specs.Links.{Grows}
use Rattle.ent_match.proofs.Marks.{SoFar}
use Rattle.ent_match.proofs.link.mark_once.Given as goal

-- the links so far are gone along
abbrev pub invariant-loop-link : goal.invariant-loop-link
invariant-loop-link l = record {
  grows : Grows l.links l.fn.marks l.marks;
  so_far : SoFar (take l.link-index l.links) l.fn.marks l.marks l.is_new;
}
