use Rattle.std.proofs.Common.{◌≡◌, ◌++◌, drop}
use Rattle.ent_page.specs.Key.{text_key}
use Rattle.ent_page.proofs.writing.append_escaped.Given as goal

-- what is out, and what is left, escaped
abbrev pub invariant-loop-byte : goal.invariant-loop-byte
invariant-loop-byte l = l.out.items ++ text_key (drop l.byte-index l.text) ≡ l.fn.out.items ++ text_key l.text
