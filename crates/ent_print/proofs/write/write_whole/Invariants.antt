use Rattle.std.proofs.Common.{length}
use Rattle.ent_value.specs.Watched.{IsUnmarked}
use Rattle.ent_print.proofs.Beginning.{Written}
use Rattle.ent_print.proofs.write.write_whole.Given as goal

-- what was taken is a beginning of the text, and nothing failed
abbrev pub invariant-loop-rest : goal.invariant-loop-rest
invariant-loop-rest g l = record {
  beginning : Written (g.W.Write.contents l.initial.writer.inner) (g.W.Write.contents l.writer.inner) l.text l.rest;
  unmarked : IsUnmarked l.writer;
}

abbrev pub decreases-loop-rest : goal.decreases-loop-rest
decreases-loop-rest g l = length l.rest
