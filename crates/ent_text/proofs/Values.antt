-- Values are read as they are written.
use Rattle.std.proofs.Common.{◌≡◌, ℕ, zero, suc, pos, negsuc, ◌<◌, ◌≤◌, Bool, true, false, leb, List, [], ◌∷◌, ◌++◌}
use Rattle.std.proofs.Common.{length, cond, Ok, Err, Result, refl, ap, sym, ◌∙◌, subst, arith, eqb, append_assoc}
use Rattle.std.specs.List.{list_all}
use Rattle.std.specs.Char.{is_ascii_digit}
use Rattle.std.specs.Fmt.{decimal}
use Rattle.std.proofs.lemmas.Bool.{le-leb, leb-true, eqb-true, ne_eqb, and_parts}
use Rattle.std.proofs.lemmas.Fmt.{decimal_nonempty}
use Rattle.ent_lists.specs.Elements.{neither}
use Rattle.ent_value.specs.Refusal.{◌>>=◌}
use Rattle.ent_value.specs.Name.{is_word_byte}
use Rattle.ent_value.specs.Print.{value_text, doubled}
use Rattle.ent_value.specs.declared.text.TheConstants.{LONGEST_TEXT}
use Rattle.ent_value.specs.declared.value.Value.{Value}
use Rattle.ent_value.specs.declared.value.Value.TheVariants.{Int, Text}
use Rattle.ent_text.specs.Lexing.{Stops}
use Rattle.ent_text.proofs.Texts.{is_quote}
use Rattle.ent_text.specs.declared.line_fault.LineFault.{LineFault}
use Rattle.ent_text.specs.Pieces.{content_at, number_to, number_at, short_text, text_at, negative, negative_at}
use Rattle.ent_text.specs.Pieces.{positive_at, value_at}
use Rattle.ent_text.specs.Written.{IsOver, IsText, IsValue}
use Rattle.ent_text.proofs.Numbers.{chosen, read_of, is_first, is_rest, number_found, number_again, digits_of}
use Rattle.ent_text.proofs.LineTexts.{content_found, content_again}

-- a reading that goes on after another
pub bind_ok : {A B : Type 0} (r : Result A LineFault) (f : A → Result B LineFault) (y : B) → (r >>= f) ≡ Ok y
    → (x : A) × (r ≡ Ok x) × (f x ≡ Ok y)
bind_ok (Ok x) f y h = (x, refl, h)
bind_ok (Err e) f y h = cc

-- what is read is written so, and can be
abbrev pub ValueStands : List ℕ → Value → List ℕ → Type 0
ValueStands bytes value rest = (bytes ≡ value_text value ++ rest) × IsValue value

text_found : (bytes rest : List ℕ) (value : Value) → text_at bytes ≡ Ok (value, rest)
    → ValueStands (39 ∷ bytes) value rest
unfolding text_at
text_found bytes rest value h =
    let found = bind_ok (content_at bytes) (λ content. short_text content.0 content.1) (value, rest) h in
    let content = found.0.0 in
    let short = chosen (leb (length content) LONGEST_TEXT) _ _ _ found.2 in
    let is = content_found bytes content found.0.1 found.1 in
    let value_is : Text content ≡ value = is_first (Text content) value found.0.1 rest short.1 in
    let rest_is : found.0.1 ≡ rest = is_rest (Text content) value found.0.1 rest short.1 in (
      ap (λ more. 39 ∷ more)
          (is.0 ∙ sym (append_assoc (doubled content) (39 ∷ []) found.0.1)
          ∙ ap (λ behind. (doubled content ++ 39 ∷ []) ++ behind) rest_is)
          ∙ ap (λ v. value_text v ++ rest) value_is,
      subst IsValue value_is (is.1, leb-true (length content) LONGEST_TEXT short.0),
    )

negative_found_by : (n : ℕ) (bytes behind rest : List ℕ) (value : Value) → n ≤ 9223372036854775808
    → bytes ≡ decimal n ++ behind → negative n behind ≡ Ok (value, rest) → ValueStands (45 ∷ bytes) value rest
negative_found_by zero bytes behind rest value le is h = cc
negative_found_by (suc n) bytes behind rest value le is h =
    let value_is : Int (negsuc n) ≡ value = is_first (Int (negsuc n)) value behind rest h in
    let rest_is : behind ≡ rest = is_rest (Int (negsuc n)) value behind rest h in (
      ap (λ more. 45 ∷ more) (is ∙ ap (λ left. decimal (suc n) ++ left) rest_is)
          ∙ ap (λ v. value_text v ++ rest) value_is,
      subst IsValue value_is (omega arith),
    )

negative_found : (bytes rest : List ℕ) (value : Value) → negative_at bytes ≡ Ok (value, rest)
    → ValueStands (45 ∷ bytes) value rest
unfolding negative_at
negative_found bytes rest value h =
    let found = bind_ok (number_to 9223372036854775808 bytes) (λ found. negative found.0 found.1) (value, rest) h in
    let is = number_found 9223372036854775808 bytes found.0.1 found.0.0 (omega arith) found.1 in
    negative_found_by found.0.0 bytes found.0.1 rest value is.1 is.0 found.2

positive_found : (bytes rest : List ℕ) (value : Value) → positive_at bytes ≡ Ok (value, rest)
    → ValueStands bytes value rest
unfolding positive_at
positive_found bytes rest value h =
    let found = bind_ok (number_at bytes) (λ found. read_of (Int (pos found.0)) found.1) (value, rest) h in
    let n = found.0.0 in
    let is = number_found 9223372036854775807 bytes found.0.1 n (omega arith) found.1 in
    let value_is : Int (pos n) ≡ value = is_first (Int (pos n)) value found.0.1 rest found.2 in
    let rest_is : found.0.1 ≡ rest = is_rest (Int (pos n)) value found.0.1 rest found.2 in (
      is.0 ∙ ap (λ left. decimal n ++ left) rest_is ∙ ap (λ v. value_text v ++ rest) value_is,
      subst IsValue value_is (omega (arith, is.1)),
    )

-- ---- the first byte tells

begins : (b : ℕ) (bytes : List ℕ) (c : ℕ) → eqb b c ≡ true → b ∷ bytes ≡ c ∷ bytes
begins b bytes c e = ap (λ d. d ∷ bytes) (eqb-true b c e)

found_by : (b : ℕ) (bytes rest : List ℕ) (value : Value) (quote minus : Bool)
    → eqb b 39 ≡ quote → eqb b 45 ≡ minus
    → cond quote (text_at bytes) (cond minus (negative_at bytes) (positive_at (b ∷ bytes))) ≡ Ok (value, rest)
    → ValueStands (b ∷ bytes) value rest
found_by b bytes rest value true minus e f h =
    subst (λ front. ValueStands front value rest) (sym (begins b bytes 39 e)) (text_found bytes rest value h)
found_by b bytes rest value false true e f h =
    subst (λ front. ValueStands front value rest) (sym (begins b bytes 45 f)) (negative_found bytes rest value h)
found_by b bytes rest value false false e f h = positive_found (b ∷ bytes) rest value h

pub value_found : (bytes rest : List ℕ) (value : Value) → value_at bytes ≡ Ok (value, rest)
    → (bytes ≡ value_text value ++ rest) × IsValue value
unfolding value_at
value_found [] rest value h = positive_found [] rest value h
value_found (b ∷ bytes) rest value h = found_by b bytes rest value (eqb b 39) (eqb b 45) refl refl h

-- ---- back

pub over_quote : (rest : List ℕ) → IsOver rest → Stops is_quote rest
over_quote [] h = tt
over_quote (c ∷ others) h = (neither (is_word_byte c) (eqb c 39) h).1

digit_is_word : (c : ℕ) → is_ascii_digit c ≡ true → is_word_byte c ≡ true
digit_is_word c h = rw h refl

no_digit_by : (c : ℕ) (t : Bool) → is_ascii_digit c ≡ t → is_word_byte c ≡ false → t ≡ false
no_digit_by c true e h = let k : is_word_byte c ≡ true = digit_is_word c e in cc
no_digit_by c false e h = refl

no_digit : (c : ℕ) → is_word_byte c ≡ false → is_ascii_digit c ≡ false
no_digit c h = no_digit_by c (is_ascii_digit c) refl h

pub over_digit : (rest : List ℕ) → IsOver rest → Stops is_ascii_digit rest
over_digit [] h = tt
over_digit (c ∷ others) h = no_digit c (neither (is_word_byte c) (eqb c 39) h).0

no_quote : (b : ℕ) → is_ascii_digit b ≡ true → b ≡ 39 → ⊥
no_quote b h e = let k : is_ascii_digit b ≡ false = ap is_ascii_digit e in cc

no_minus : (b : ℕ) → is_ascii_digit b ≡ true → b ≡ 45 → ⊥
no_minus b h e = let k : is_ascii_digit b ≡ false = ap is_ascii_digit e in cc

digit_again : (b : ℕ) (bytes : List ℕ) → is_ascii_digit b ≡ true → value_at (b ∷ bytes) ≡ positive_at (b ∷ bytes)
unfolding value_at
digit_again b bytes h =
    rw (ne_eqb b 39 (no_quote b h)) (rw (ne_eqb b 45 (no_minus b h)) refl)

positive_again : (n : ℕ) (rest : List ℕ) → n ≤ 9223372036854775807 → IsOver rest
    → positive_at (decimal n ++ rest) ≡ Ok (Int (pos n), rest)
unfolding positive_at
positive_again n rest le over =
    ap (λ r. r >>= λ found. read_of (Int (pos found.0)) found.1)
    (number_again 9223372036854775807 n rest (omega arith) le (over_digit rest over))

negative_again : (n : ℕ) (rest : List ℕ) → suc n ≤ 9223372036854775808 → IsOver rest
    → negative_at (decimal (suc n) ++ rest) ≡ Ok (Int (negsuc n), rest)
unfolding negative_at
negative_again n rest le over =
    ap (λ r. r >>= λ found. negative found.0 found.1)
    (number_again 9223372036854775808 (suc n) rest (omega arith) le (over_digit rest over))

text_again : (content rest : List ℕ) → IsText content → IsOver rest
    → text_at ((doubled content ++ 39 ∷ []) ++ rest) ≡ Ok (Text content, rest)
unfolding text_at
text_again content rest is over =
    ap (λ bytes. content_at bytes >>= λ found. short_text found.0 found.1)
    (append_assoc (doubled content) (39 ∷ []) rest)
    ∙ ap (λ r. r >>= λ found. short_text found.0 found.1) (content_again content rest is.0 (over_quote rest over))
    ∙ rw (le-leb (length content) LONGEST_TEXT is.1) refl

digits_again : (n : ℕ) (digits rest : List ℕ) → decimal n ≡ digits → 0 < length digits
    → list_all is_ascii_digit digits ≡ true → value_at (digits ++ rest) ≡ positive_at (digits ++ rest)
digits_again n [] rest is some all = absurd (omega arith)
digits_again n (b ∷ digits) rest is some all = digit_again b (digits ++ rest) (and_parts (is_ascii_digit b) _ all).0

minus : (bytes : List ℕ) → value_at (45 ∷ bytes) ≡ negative_at bytes
unfolding value_at
minus bytes = refl

quote : (bytes : List ℕ) → value_at (39 ∷ bytes) ≡ text_at bytes
unfolding value_at
quote bytes = refl

pub value_again : (value : Value) (rest : List ℕ) → IsValue value → IsOver rest
    → value_at (value_text value ++ rest) ≡ Ok (value, rest)
value_again (Int (pos n)) rest is over =
    let le : n ≤ 9223372036854775807 = omega (arith, is) in
    let h : n < 18446744073709551616 = omega (arith, is) in
    digits_again n (decimal n) rest refl (decimal_nonempty n h) (digits_of n h)
    ∙ positive_again n rest le over
value_again (Int (negsuc n)) rest is over =
    minus (decimal (suc n) ++ rest) ∙ negative_again n rest (omega (arith, is)) over
value_again (Text content) rest is over = quote ((doubled content ++ 39 ∷ []) ++ rest) ∙ text_again content rest is over
