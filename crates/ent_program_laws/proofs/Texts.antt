-- Texts of whole characters: joined, cut at bytes of ASCII, and of ASCII alone.
use Rattle.std.proofs.Common.{◌≡◌, ℕ, ◌+◌, ◌<◌, Bool, true, false, cond, eqb, ltb, ◌/◌, ◌%◌, zero, suc}
use Rattle.std.proofs.Common.{List, [], ◌∷◌, ◌++◌, length, get_or, drop, refl, sym, ap, subst, ◌∙◌, arith, append_assoc}
use Rattle.std.specs.List.{AllByRecursion, flat_map, list_all}
use Rattle.std.specs.Str.{IsAscii, IsUtf8}
use Rattle.std.specs.Fmt.{decimal, digit_glyph, digits, digits_onto}
use Rattle.std.proofs.lemmas.Bool.{and_parts, ltb-true}
use Rattle.std.proofs.lemmas.List.{drop_at, length-append, take_at}
use Rattle.std.proofs.lemmas.Str.{IsCharBoundary-after_ascii, IsCharBoundary-before_ascii, IsUtf8-append, IsUtf8-drop}
use Rattle.std.proofs.lemmas.Str.{IsUtf8-from_ascii, IsUtf8-nil, IsUtf8-take}
use Rattle.std.proofs.lemmas.Str.Ascii.{IsAscii-cons, IsAscii-nil}

-- ---- joined

pub joined : (one other : List ℕ) → IsUtf8 one → IsUtf8 other → IsUtf8 (one ++ other)
joined = IsUtf8-append

pub each_joined : {A : Type 0} (text : A → List ℕ) (xs : List A) → AllByRecursion (λ x. IsUtf8 (text x)) xs
    → IsUtf8 (flat_map text xs)
each_joined text [] each = IsUtf8-nil
each_joined text (x ∷ xs) each = joined (text x) (flat_map text xs) each.0 (each_joined text xs each.1)

-- ---- of ASCII alone

all_small : (bytes : List ℕ) → list_all (λ b. ltb b 128) bytes ≡ true → IsAscii bytes
all_small [] small = IsAscii-nil
all_small (b ∷ bytes) small =
    let parts = and_parts (ltb b 128) (list_all (λ c. ltb c 128) bytes) small in
    IsAscii-cons b bytes (ltb-true b 128 parts.0) (all_small bytes parts.1)

pub of_ascii : (bytes : List ℕ) → list_all (λ b. ltb b 128) bytes ≡ true → IsUtf8 bytes
of_ascii bytes small = IsUtf8-from_ascii bytes (all_small bytes small)

pub one_byte : (b : ℕ) → b < 128 → IsUtf8 (b ∷ [])
one_byte b small = IsUtf8-from_ascii (b ∷ []) (IsAscii-cons b [] small IsAscii-nil)

pub behind_byte : (b : ℕ) (bytes : List ℕ) → b < 128 → IsUtf8 bytes → IsUtf8 (b ∷ bytes)
behind_byte b bytes small is = joined (b ∷ []) bytes (one_byte b small) is

pub chosen : (test : Bool) (one other : List ℕ) → IsUtf8 one → IsUtf8 other → IsUtf8 (cond test one other)
chosen true one other is is_other = is
chosen false one other is is_other = is_other

digit_text : (n : ℕ) → IsUtf8 (digit_glyph false (n % 10) ∷ [])
digit_text n = one_byte (digit_glyph false (n % 10)) (small (ltb (n % 10) 10))
  where
    small : (test : Bool) → cond test (48 + n % 10) (87 + n % 10) < 128
    small true = omega arith
    small false = omega arith

digits_text : (most n : ℕ) (behind : List ℕ) → IsUtf8 behind → IsUtf8 (digits_onto most 10 false n behind)
digits_text zero n behind is = is
digits_text (suc most) n behind is =
    let more = digit_glyph false (n % 10) ∷ behind in
    let more_is = joined (digit_glyph false (n % 10) ∷ []) behind (digit_text n) is in
    chosen (eqb (n / 10) 0) more (digits_onto most 10 false (n / 10) more) more_is
    (digits_text most (n / 10) more more_is)

pub number_text : (n : ℕ) → IsUtf8 (decimal n)
unfolding digits
number_text n = digits_text 64 n [] IsUtf8-nil

-- ---- cut at a byte of ASCII

pub cut_at : (front : List ℕ) (b : ℕ) (behind : List ℕ) → b < 128 → IsUtf8 (front ++ b ∷ behind)
    → IsUtf8 front × IsUtf8 behind
cut_at front b behind small is =
    let whole = front ++ b ∷ behind in
    let at : drop (length front) whole ≡ b ∷ behind = drop_at front (b ∷ behind) (length front) refl in
    let inside : length front < length whole = omega (arith, length-append front (b ∷ behind)) in
    let there : get_or whole (length front) 0 < 128 = subst (λ c. c < 128) (sym (byte_at front)) small in
    let regrouped : (front ++ b ∷ []) ++ behind ≡ whole = append_assoc front (b ∷ []) behind in
    let long : length (front ++ b ∷ []) ≡ length front + 1 = length-append front (b ∷ []) in (
      subst IsUtf8 (take_at front (b ∷ behind) (length front) refl)
          (IsUtf8-take whole (length front) is (IsCharBoundary-before_ascii whole (length front) inside there)),
      subst IsUtf8
          (ap (drop (length front + 1)) (sym regrouped) ∙ drop_at (front ++ b ∷ []) behind (length front + 1) long)
          (IsUtf8-drop whole (length front + 1) is
          (IsCharBoundary-after_ascii whole (length front) is inside there)),
    )
  where
    byte_at : (bytes : List ℕ) → get_or (bytes ++ b ∷ behind) (length bytes) 0 ≡ b
    byte_at [] = refl
    byte_at (c ∷ bytes) = byte_at bytes
