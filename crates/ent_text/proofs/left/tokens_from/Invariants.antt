use Rattle.std.proofs.Common.{◌≡◌, ◌+◌, length}
use Rattle.ent_text.specs.Left.{tokens_left}
use Rattle.ent_text.proofs.left.tokens_from.Given as goal

-- the tokens of what is left are all
abbrev pub invariant-loop-rest : goal.invariant-loop-rest
invariant-loop-rest l = record {
  place : l.start + length l.rest ≡ l.place + length l.bytes;
  left : tokens_left l.start l.rest ≡ tokens_left l.place l.bytes;
}

abbrev pub decreases-loop-rest : goal.decreases-loop-rest
decreases-loop-rest l = length l.rest
