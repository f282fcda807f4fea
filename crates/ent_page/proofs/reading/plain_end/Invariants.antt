use Rattle.std.proofs.Common.{◌≡◌, ◌++◌, drop, take, false}
use Rattle.ent_page.specs.Read.{text_from, past_text}
use Rattle.ent_page.proofs.reading.plain_end.Given as goal

abbrev pub invariant-loop-i : goal.invariant-loop-i
invariant-loop-i l = (text_from false l.bytes ≡ take l.i l.bytes ++ text_from false (drop l.i l.bytes)) ×
    (past_text false l.bytes ≡ past_text false (drop l.i l.bytes))
