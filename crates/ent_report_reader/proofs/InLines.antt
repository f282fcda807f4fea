-- No line ends inside a number or inside the line above a script.
use Rattle.std.proofs.Common.{◌≡◌, ◌+◌, ℕ, zero, suc, Bool, true, false, not, ◌&&◌, ◌==◌, List, [], ◌∷◌, ◌++◌, refl, ap}
use Rattle.std.proofs.Common.{arith, if◌then◌else◌}
use Rattle.std.specs.Prelude.{codes, nat_lt, ◌/◌, ◌%◌}
use Rattle.std.specs.List.{list_all}
use Rattle.std.specs.Fmt.{decimal, digit_glyph, digits, digits_onto}
use Rattle.std.proofs.lemmas.Bool.{ne_eqb}
use Rattle.ent_lists.specs.Elements.{both_and}
use Rattle.ent_text.specs.Spelling.{is_in_line}
use Rattle.ent_history.specs.ScriptLines.{script_text}
use Rattle.ent_history.proofs.InLine.{IsInLine, in_line_append}

other_byte : (b : ℕ) → (b ≡ 10 → ⊥) → is_in_line b ≡ true
other_byte b other = ap not (ne_eqb b 10 other)

glyph_in_line : (d : ℕ) → is_in_line (digit_glyph false d) ≡ true
glyph_in_line d = by (nat_lt d 10)
  where
    by : (test : Bool) → is_in_line (if test then 48 + d else 87 + d) ≡ true
    by true = other_byte (48 + d) (λ e. absurd (omega (arith, e)))
    by false = other_byte (87 + d) (λ e. absurd (omega (arith, e)))

either : (test : Bool) (one other : List ℕ) → IsInLine one → IsInLine other
    → IsInLine (if test then one else other)
either true one other h k = h
either false one other h k = k

onto_in_line : (k n : ℕ) (behind : List ℕ) → IsInLine behind → IsInLine (digits_onto k 10 false n behind)
onto_in_line zero n behind h = h
onto_in_line (suc k) n behind h =
    let glyph = digit_glyph false (n % 10) in
    let more = both_and (is_in_line glyph) (list_all is_in_line behind) (glyph_in_line (n % 10)) h in
    either (n / 10 == 0) (glyph ∷ behind) (digits_onto k 10 false (n / 10) (glyph ∷ behind)) more
    (onto_in_line k (n / 10) (glyph ∷ behind) more)

pub number_in_line : (n : ℕ) → IsInLine (decimal n)
unfolding digits
number_in_line n = onto_in_line 64 n [] refl

pub script_line_in_line : (number count : ℕ) → IsInLine (script_text number count)
script_line_in_line number count =
    in_line_append (codes "script ") (decimal number ++ (codes " " ++ decimal count)) refl
    (in_line_append (decimal number) (codes " " ++ decimal count) (number_in_line number)
    (in_line_append (codes " ") (decimal count) refl (number_in_line count)))
