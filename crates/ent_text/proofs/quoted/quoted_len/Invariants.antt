use Rattle.std.proofs.Common.{◌≡◌, ◌+◌, ◌≤◌, ℕ, List, length}
use Rattle.ent_text.specs.Lexing.{quoted_at}
use Rattle.ent_text.proofs.Reading.{with_front}
use Rattle.ent_text.proofs.quoted.quoted_len.Given as goal

-- what was passed over and what is left are all
abbrev pub invariant-loop-rest : goal.invariant-loop-rest
invariant-loop-rest l = record {
  place : l.at + length l.rest ≡ l.place + length l.bytes;
  few : l.count + length l.rest ≤ length l.bytes;
  whole : (front : List ℕ) × (length front ≡ l.count)
      × (with_front front (quoted_at l.quote l.at l.rest) ≡ quoted_at l.quote l.place l.bytes);
}

abbrev pub decreases-loop-rest : goal.decreases-loop-rest
decreases-loop-rest l = length l.rest
