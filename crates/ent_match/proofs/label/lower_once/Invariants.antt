use Rattle.std.proofs.Common.{take}
use Rattle.ent_match.specs.Components.{joins_of}
use Rattle.ent_match.specs.Labels.{Lowers}
use Rattle.ent_match.proofs.Labelled.{LevelSoFar}
use Rattle.ent_match.proofs.label.lower_once.Given as goal

-- labels went along the links so far
abbrev pub invariant-loop-link : goal.invariant-loop-link
invariant-loop-link l = record {
  lowers : Lowers (joins_of l.links l.removed) l.fn.labels l.labels;
  so_far : LevelSoFar (take l.link-index l.links) l.removed l.fn.labels l.labels l.is_new;
}
