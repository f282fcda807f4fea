-- Lines of a text.
use Rattle.std.proofs.Common.{◌≡◌, ◌≢◌, ◌==◌, ◌<◌, ℕ, List, [], ◌∷◌, ◌++◌, length, take, drop, get_or}
use Rattle.std.proofs.Common.{refl, sym, ◌∙◌, ap, subst, inl, inr, lit<, Some, append_assoc}
use Rattle.std.specs.Str.{NoCharPasses, IsCharBoundary}
use Rattle.std.specs.Str.Pattern.{RFindsChar, HasCharAt}
use Rattle.std.proofs.lemmas.List.{take-append-drop, get_or_default, length-take-le, append-nil}
use Rattle.std.proofs.lemmas.Str.Pattern.{NoCharPasses-char, drop_at_char}
use Rattle.ent_excerpt.specs.Line.{IsUnbroken, IsLastLine, IsFirstLine, IsLineAt}

pub unbroken : (bytes : List ℕ) → ((k : ℕ) → k < length bytes → get_or bytes k 0 ≢ 10) → IsUnbroken bytes
unbroken bytes h k d below same = h k below (get_or_default bytes k 0 d below ∙ same)

pub without_breaks : (bytes : List ℕ) → NoCharPasses (λ d. d == 10) bytes → IsUnbroken bytes
without_breaks bytes h = unbroken bytes (λ k below. NoCharPasses-char 10 bytes k h (lit< tt) below)

-- a text without LF is its last line, and its first
pub all_is_last : (text : List ℕ) → NoCharPasses (λ d. d == 10) text → IsLastLine text text
all_is_last text h = record { earlier = []; whole = refl; begins = inl refl; unbroken = without_breaks text h }

pub all_is_first : (text : List ℕ) → NoCharPasses (λ d. d == 10) text → IsFirstLine text text
all_is_first text h =
    record { later = []; whole = sym (append-nil text); ends = inl refl; unbroken = without_breaks text h }

-- a text falls into what stands before an LF, this, and what stands behind it
around_break : (text : List ℕ) (i j : ℕ) → HasCharAt 10 text i j → text ≡ (take i text ++ 10 ∷ []) ++ drop j text
around_break text i j at =
    let behind : drop i text ≡ 10 ∷ drop j text = drop_at_char 10 text i j at (lit< tt) in
    sym (take-append-drop i text)
    ∙ ap (λ (rest : List ℕ). take i text ++ rest) behind
    ∙ sym (append_assoc (take i text) (10 ∷ []) (drop j text))

-- what stands behind the last LF is the last line
pub behind_last_break : (text line : List ℕ) (i j : ℕ) → RFindsChar 10 text (Some (i, j)) → line ≡ drop j text
    → IsLastLine text line
behind_last_break text line i j (none, at) is =
    let P : List ℕ → Type 0 = λ l. IsLastLine text l in
    subst P (sym is) (record {
      earlier = take i text ++ 10 ∷ [];
      whole = around_break text i j at;
      begins = inr (take i text, refl);
      unbroken = without_breaks (drop j text) none;
    })

-- what stands before the first LF is the first line
pub before_first_break : (text line rest : List ℕ) → text ≡ line ++ (10 ∷ rest)
    → ((k : ℕ) → k < length line → get_or line k 0 ≢ 10) → IsFirstLine text line
before_first_break text line rest whole h =
    record { later = 10 ∷ rest; whole = whole; ends = inr (rest, refl); unbroken = unbroken line h }

-- the last line before a place, and the first from it on, are one line
pub line_around : (text : List ℕ) (offset : ℕ) (before behind : List ℕ) → IsCharBoundary text offset
    → IsLastLine (take offset text) before → IsFirstLine (drop offset text) behind → IsLineAt text offset before behind
line_around text offset before behind (fits, lead) last first = record {
  earlier = last.earlier;
  later = first.later;
  whole = sym (take-append-drop offset text)
      ∙ ap (λ (front : List ℕ). front ++ drop offset text) last.whole
      ∙ ap (λ (rest : List ℕ). (last.earlier ++ before) ++ rest) first.whole;
  place = ap (λ (front : List ℕ). length front) (sym last.whole) ∙ length-take-le offset text fits;
  begins = last.begins;
  ends = first.ends;
  unbroken_before = last.unbroken;
  unbroken_behind = first.unbroken;
}
