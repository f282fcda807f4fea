-- Digits, and the number that they write.
use Rattle.std.proofs.Common.{◌≡◌, ℕ, ◌<◌, Bool, true, leb, List, [], ◌∷◌, refl, ap, sym, ◌∙◌}
use Rattle.std.specs.Prelude.{◌&&◌}
use Rattle.std.specs.List.{list_all}
use Rattle.std.specs.Char.{is_ascii_digit, digit_value}
use Rattle.std.specs.Str.{all_ascii_digits}
use Rattle.std.specs.Str.Parse.{AllDigits, digits_value}
use Rattle.std.proofs.lemmas.Bool.{and_from, le-leb}
use Rattle.std.proofs.lemmas.Str.Parse.{IsNumeralModel, numerals_by_fold, tells_digits, tells_all_ascii_digits}
use Rattle.ent_text.specs.Lexing.{value_from}

pub is_digit : (c : ℕ) → digit_value c < 10 → is_ascii_digit c ≡ true
is_digit c h = let k = (tells_digits.parts c [] (h, tt)).0 in
    and_from (leb 48 c) (leb c 57) (le-leb 48 c k.0) (le-leb c 57 k.1)

same_test : (ds : List ℕ) → all_ascii_digits ds ≡ list_all is_ascii_digit ds
same_test [] = refl
same_test (c ∷ cs) = ap (λ (t : Bool). is_ascii_digit c && t) (same_test cs)

model : IsNumeralModel (λ ds. all_ascii_digits ds ≡ true) (value_from 0)
model = numerals_by_fold (λ ds. all_ascii_digits ds ≡ true) tells_all_ascii_digits value_from
    (record { empty = λ n. refl; more = λ n c cs k. refl })

pub digits_pass : (ds : List ℕ) → AllDigits 10 ds → list_all is_ascii_digit ds ≡ true
digits_pass ds h = sym (same_test ds) ∙ model.from ds h

pub all_digits : (ds : List ℕ) → list_all is_ascii_digit ds ≡ true → AllDigits 10 ds
all_digits ds e = model.to ds (same_test ds ∙ e)

pub value_is : (ds : List ℕ) → AllDigits 10 ds → value_from 0 ds ≡ digits_value 10 ds
value_is ds h = model.same ds h
