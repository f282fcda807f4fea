use Rattle.std.proofs.Common.{◌≡◌, ◌≤◌, drop}
use Rattle.ent_text.specs.Lexing.{value_from}
use Rattle.ent_text.proofs.line_numeral.value_of.Given as goal

-- the value so far goes on to that of all digits
abbrev pub invariant-loop-digit : goal.invariant-loop-digit
invariant-loop-digit l = record {
  small : l.value ≤ l.most;
  whole : value_from l.value (drop l.digit-index l.digits) ≡ value_from 0 l.digits;
}
