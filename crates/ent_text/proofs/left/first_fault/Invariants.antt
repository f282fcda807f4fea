use Rattle.std.proofs.Common.{◌≡◌, ◌+◌, length}
use Rattle.ent_text.specs.Left.{tokens_left, fault_among}
use Rattle.ent_text.proofs.left.first_fault.Given as goal

-- the first fault of what is left is the first of all
abbrev pub invariant-loop-rest : goal.invariant-loop-rest
invariant-loop-rest l = record {
  place : l.at + length l.rest ≡ l.place + length l.bytes;
  left : fault_among (tokens_left l.at l.rest) ≡ fault_among (tokens_left l.place l.bytes);
}

abbrev pub decreases-loop-rest : goal.decreases-loop-rest
decreases-loop-rest l = length l.rest
