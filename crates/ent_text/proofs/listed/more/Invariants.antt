use Rattle.std.proofs.Common.{length}
use Rattle.ent_text.specs.Pieces.{more_at, with_value}
use Rattle.ent_text.proofs.Rows.{Left}
use Rattle.ent_text.proofs.listed.more.Given as goal

-- what was read and what is left are the row
abbrev pub invariant-loop-rest : goal.invariant-loop-rest
invariant-loop-rest l = Left l.values.items l.rest (with_value l.fn.first (more_at (length l.bytes) l.bytes))

abbrev pub decreases-loop-rest : goal.decreases-loop-rest
decreases-loop-rest l = length l.rest
