use Rattle.std.proofs.Common.{◌≡◌, ◌++◌, drop, List, ℕ}
use Rattle.ent_page.specs.Key.{text_key, key_cmp}
use Rattle.ent_page.proofs.probe.past_escaped.Given as goal

-- where what is left goes on with what is left of the text, the bytes go on with the text; and they compare alike
abbrev pub invariant-loop-byte : goal.invariant-loop-byte
invariant-loop-byte l = record {
  same : (more : List ℕ)
      → key_cmp l.left (text_key (drop l.byte-index l.text) ++ more) ≡ key_cmp l.bytes (text_key l.text ++ more);
  front : (rest : List ℕ) → l.left ≡ text_key (drop l.byte-index l.text) ++ rest → l.bytes ≡ text_key l.text ++ rest;
}
