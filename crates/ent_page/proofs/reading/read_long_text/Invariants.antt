use Rattle.std.proofs.Common.{◌≡◌, ◌++◌, drop, false}
use Rattle.ent_page.specs.Read.{text_from, past_text}
use Rattle.ent_page.proofs.reading.read_long_text.Given as goal

abbrev pub invariant-loop-i : goal.invariant-loop-i
invariant-loop-i l = (l.text.items ++ text_from l.behind_zero (drop l.i l.bytes) ≡ text_from false l.bytes) ×
    (past_text l.behind_zero (drop l.i l.bytes) ≡ past_text false l.bytes)
