use Rattle.std.proofs.Common.{◌≡◌, drop, false}
use Rattle.ent_page.specs.Read.{past_text}
use Rattle.ent_page.proofs.reading.text_end.Given as goal

abbrev pub invariant-loop-i : goal.invariant-loop-i
invariant-loop-i l = past_text l.behind_zero (drop l.i l.bytes) ≡ past_text false l.bytes
