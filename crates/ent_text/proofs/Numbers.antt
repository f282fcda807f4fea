-- Numbers are read as they are written.
use Rattle.std.proofs.Common.{◌≡◌, ℕ, ◌<◌, ◌≤◌, ◌^◌, Bool, true, false, leb, List, [], ◌∷◌, ◌++◌, length, get_or, cond}
use Rattle.std.proofs.Common.{Ok, Err, Result, refl, ap, sym, ◌∙◌, subst, arith, eqb}
use Rattle.std.specs.Prelude.{not, ◌&&◌}
use Rattle.std.specs.List.{list_all, take_while}
use Rattle.std.specs.Char.{is_ascii_digit}
use Rattle.std.specs.Fmt.{decimal}
use Rattle.std.specs.Str.{all_ascii_digits}
use Rattle.std.proofs.lemmas.Bool.{le-leb, leb-true, eq-eqb, eqb-true, eqb-false}
use Rattle.std.proofs.lemmas.Fmt.{decimal-digits_value, digits_value-decimal, digits_decimal, decimal_nonempty}
use Rattle.std.proofs.lemmas.Fmt.{first_decimal, decimal_digit}
use Rattle.std.proofs.lemmas.Str.Parse.{IsNumeralModel, numerals_by_fold, tells_all_ascii_digits}
use Rattle.ent_text.specs.Lexing.{after, Stops, value_from}
use Rattle.ent_text.proofs.Fronts.{front_passes, parts, taken_is, after_is}
use Rattle.ent_text.specs.declared.line_fault.LineFault.{LineFault}
use Rattle.ent_text.specs.Pieces.{Read, is_plain, number_to}
use Rattle.ent_text.proofs.LineFronts.{after_stops}

-- ---- results

pub chosen : {A : Type 0} (b : Bool) (x : Result A LineFault) (e : LineFault) (y : A) → cond b x (Err e) ≡ Ok y
    → (b ≡ true) × (x ≡ Ok y)
chosen true x e y h = (refl, h)
chosen false x e y h = cc

abbrev first_or : {A : Type 0} → A → Read A → A
first_or other (Ok read) = read.0
first_or other (Err fault) = other

abbrev rest_or : {A : Type 0} → List ℕ → Read A → List ℕ
rest_or other (Ok read) = read.1
rest_or other (Err fault) = other

abbrev pub read_of : {A : Type 0} → A → List ℕ → Read A
read_of x rest = Ok (x, rest)

pub is_first : {A : Type 0} (x y : A) (xs ys : List ℕ) → read_of x xs ≡ read_of y ys → x ≡ y
is_first x y xs ys h = ap (first_or x) h

pub is_rest : {A : Type 0} (x y : A) (xs ys : List ℕ) → read_of x xs ≡ read_of y ys → xs ≡ ys
is_rest x y xs ys h = ap (rest_or xs) h

-- ---- digits

same_test : (ds : List ℕ) → all_ascii_digits ds ≡ list_all is_ascii_digit ds
same_test [] = refl
same_test (c ∷ cs) = ap (λ (t : Bool). is_ascii_digit c && t) (same_test cs)

own : IsNumeralModel (λ ds. all_ascii_digits ds ≡ true) (value_from 0)
own = numerals_by_fold (λ ds. all_ascii_digits ds ≡ true) tells_all_ascii_digits value_from
    (record { empty = λ n. refl; more = λ n c cs k. refl })

not_zero : (d : ℕ) → not (eqb d 48) ≡ true → d ≡ 48 → ⊥
not_zero d h e = let k : not (eqb d 48) ≡ false = ap not (eq-eqb d 48 e) in cc

plain_parts : (ds : List ℕ) → is_plain ds ≡ true → (0 < length ds) × (get_or ds 0 0 ≡ 48 → length ds ≡ 1)
plain_parts [] h = cc
plain_parts (d ∷ []) h = (omega arith, λ e. refl)
plain_parts (d ∷ e ∷ more) h = (omega arith, λ zero. absurd (not_zero d h zero))

is_zero_by : (d : ℕ) (t : Bool) → eqb d 48 ≡ t → (d ≡ 48 → ⊥) → not t ≡ true
is_zero_by d true e h = absurd (h (eqb-true d 48 e))
is_zero_by d false e h = refl

plain_from : (ds : List ℕ) → 0 < length ds → (get_or ds 0 0 ≡ 48 → length ds ≡ 1) → is_plain ds ≡ true
plain_from [] some h = absurd (omega arith)
plain_from (d ∷ []) some h = refl
plain_from (d ∷ e ∷ more) some h = is_zero_by d (eqb d 48) refl (λ zero. omega (arith, h zero))

plain_decimal_by : (n : ℕ) (t : Bool) → eqb n 0 ≡ t → n < 2 ^ 64 → is_plain (decimal n) ≡ true
plain_decimal_by n true e h =
    ap is_plain (ap decimal (eqb-true n 0 e) ∙ decimal_digit 0 (omega arith))
plain_decimal_by n false e h =
    let some : 0 < n = lt_from (eqb-false n 0 e) in
    plain_from (decimal n) (decimal_nonempty n h) (λ zero. absurd (omega (arith, first_decimal n some h)))
  where
    lt_from : (n ≡ 0 → ⊥) → 0 < n
    lt_from h = omega (arith, h)

plain_decimal : (n : ℕ) → n < 2 ^ 64 → is_plain (decimal n) ≡ true
plain_decimal n h = plain_decimal_by n (eqb n 0) refl h

pub digits_of : (n : ℕ) → n < 2 ^ 64 → list_all is_ascii_digit (decimal n) ≡ true
digits_of n h = sym (same_test (decimal n)) ∙ digits_decimal own n h

-- ---- numbers

pub number_found : (most : ℕ) (bytes rest : List ℕ) (n : ℕ) → most < 2 ^ 64 → number_to most bytes ≡ Ok (n, rest)
    → (bytes ≡ decimal n ++ rest) × (n ≤ most) × Stops is_ascii_digit rest
unfolding number_to
number_found most bytes rest n small h =
    let digits = take_while is_ascii_digit bytes in
    let plain = chosen (is_plain digits) _ _ _ h in
    let within = chosen (leb (value_from 0 digits) most) _ _ _ plain.1 in
    let value : value_from 0 digits ≡ n = is_first _ _ _ _ within.1 in
    let left : after is_ascii_digit bytes ≡ rest = is_rest _ _ _ _ within.1 in
    let le = leb-true (value_from 0 digits) most within.0 in
    let shape = plain_parts digits plain.0 in
    let text : decimal (value_from 0 digits) ≡ digits =
    decimal-digits_value own digits (same_test digits ∙ front_passes is_ascii_digit bytes) shape.0 shape.1
    (omega (arith, le, small)) in (
      parts is_ascii_digit bytes ∙ (λ i. sym text i ++ left i) ∙ ap (λ m. decimal m ++ rest) value,
      omega (arith, le, value),
      subst (Stops is_ascii_digit) left (after_stops is_ascii_digit bytes),
    )

pub number_again : (most n : ℕ) (rest : List ℕ) → most < 2 ^ 64 → n ≤ most → Stops is_ascii_digit rest
    → number_to most (decimal n ++ rest) ≡ Ok (n, rest)
unfolding number_to
number_again most n rest small le stop =
    let h : n < 2 ^ 64 = omega (arith, small, le) in
    let all = digits_of n h in
    rw (taken_is is_ascii_digit (decimal n) rest all stop)
    (rw (after_is is_ascii_digit (decimal n) rest all stop)
    (rw (plain_decimal n h) (rw (digits_value-decimal own n h) (rw (le-leb n most le) refl))))
