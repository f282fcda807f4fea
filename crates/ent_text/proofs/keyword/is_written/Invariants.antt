use Rattle.std.proofs.Common.{◌≡◌, length}
use Rattle.ent_text.specs.Lexing.{is_written}
use Rattle.ent_text.proofs.keyword.is_written.Given as goal

abbrev pub invariant-loop-word : goal.invariant-loop-word
invariant-loop-word l = is_written l.word l.capitals ≡ is_written l.fn.word l.fn.capitals

abbrev pub decreases-loop-word : goal.decreases-loop-word
decreases-loop-word l = length l.word
