-- What is read of a key is what was written.
use Rattle.std.proofs.Common.{◌≡◌, ℕ, ℤ, pos, negsuc, zero, suc, ◌+◌, ◌-◌, ◌%◌, ◌^◌, ◌<◌, ◌≤◌, List, [], ◌∷◌, ◌++◌}
use Rattle.std.proofs.Common.{length, take, drop, FitsSigned, true, false, sym, refl, ap, ◌∙◌, arith}
use Rattle.std.specs.Prelude.{if◌then◌else◌, nat_lt}
use Rattle.std.specs.Int.{w64, from_be_bytes, cast_signed}
use Rattle.std.proofs.lemmas.Bool.Decides.{nat_tests}
use Rattle.std.proofs.lemmas.Int.{to_z-of_z, to_z_pos}
use Rattle.std.proofs.lemmas.Nat.{from_be_bytes-to_be_bytes_8}
use Rattle.std.proofs.lemmas.List.{take_all}
use Rattle.ent_value.specs.Value.{kind_of, kinds_of}
use Rattle.ent_value.specs.declared.value.Value.{Value}
use Rattle.ent_value.specs.declared.value.Value.TheVariants.{Int, Text}
use Rattle.ent_page.specs.Key.{lifted, int_key, text_key, value_key, key_of, IsStorable, AreStorable}
use Rattle.ent_page.specs.Read.{text_from, past_text, unlifted, number_from, value_from, past_value, row_from}
use Rattle.ent_page.specs.Written.{not_zero, text_key-suc}
use Rattle.ent_page.specs.Order.{lifted_fits}

-- numbers

pub number_long : (bs : List ℕ) → 8 ≤ length bs → unlifted (from_be_bytes w64 (take 8 bs)) ≡ number_from bs
unfolding number_from
number_long bs h =
    let e : nat_lt (length bs) 8 ≡ false = grind (arith, nat_tests) in
    sym (ap (λ z. if z then pos 0 else unlifted (from_be_bytes w64 (take 8 bs))) e)

pub number_short : (bs : List ℕ) → length bs < 8 → pos 0 ≡ number_from bs
unfolding number_from
number_short bs h =
    let e : nat_lt (length bs) 8 ≡ true = grind (arith, nat_tests) in
    sym (ap (λ z. if z then pos 0 else unlifted (from_be_bytes w64 (take 8 bs))) e)

unlifted-lifted : (n : ℤ) → FitsSigned w64 n → unlifted (lifted n) ≡ n
unlifted-lifted (pos n) h =
    let e : (n + 2 ^ 63 + 2 ^ 63) % 2 ^ 64 ≡ n = omega (arith, h.sfits) in
    ap (cast_signed w64) e ∙ to_z_pos w64 n (omega (arith, h.sfits))
unlifted-lifted (negsuc n) h =
    let e : (2 ^ 63 - suc n + 2 ^ 63) % 2 ^ 64 ≡ 2 ^ 64 - suc n = omega (arith, h.sfits) in
    ap (cast_signed w64) e ∙ to_z-of_z w64 (negsuc n) h

number_back : (n : ℤ) (rest : List ℕ) → FitsSigned w64 n → number_from (int_key n ++ rest) ≡ n
unfolding int_key
number_back n rest h =
    sym (number_long (int_key n ++ rest) (omega arith))
    ∙ ap unlifted (from_be_bytes-to_be_bytes_8 (lifted n) (lifted_fits n h))
    ∙ unlifted-lifted n h

past_number : (n : ℤ) (rest : List ℕ) → drop 8 (int_key n ++ rest) ≡ rest
unfolding int_key
past_number n rest = refl

-- texts

text_back : (t rest : List ℕ) → text_from false (text_key t ++ rest) ≡ t
text_back [] rest = refl
text_back (zero ∷ t) rest = ap (λ z. 0 ∷ z) (text_back t rest)
text_back (suc b ∷ t) rest =
    ap (λ z. text_from false (z ++ rest)) (text_key-suc b t)
    ∙ ap (λ z. if z then text_from true (text_key t ++ rest) else (suc b ∷ text_from false (text_key t ++ rest)))
    (not_zero b)
    ∙ ap (λ z. suc b ∷ z) (text_back t rest)

past_back : (t rest : List ℕ) → past_text false (text_key t ++ rest) ≡ rest
past_back [] rest = refl
past_back (zero ∷ t) rest = past_back t rest
past_back (suc b ∷ t) rest =
    ap (λ z. past_text false (z ++ rest)) (text_key-suc b t)
    ∙ ap (λ z. if z then past_text true (text_key t ++ rest) else past_text false (text_key t ++ rest)) (not_zero b)
    ∙ past_back t rest

-- values and rows

pub value_back : (v : Value) (rest : List ℕ) → IsStorable v → value_from (kind_of v) (value_key v ++ rest) ≡ v
value_back (Int n) rest h = ap (λ z. Int z) (number_back n rest h)
value_back (Text t) rest h = ap (λ z. Text z) (ap (take 255) (text_back t rest) ∙ take_all 255 t h)

pub past_value_back : (v : Value) (rest : List ℕ) → past_value (kind_of v) (value_key v ++ rest) ≡ rest
past_value_back (Int n) rest = past_number n rest
past_value_back (Text t) rest = past_back t rest

pub row_back : (r : List Value) → AreStorable r → row_from (kinds_of r) (key_of r) ≡ r
row_back [] h = refl
row_back (v ∷ r) h =
    (λ i. value_back v (key_of r) h.0 i ∷ row_from (kinds_of r) (past_value_back v (key_of r) i))
    ∙ ap (λ z. v ∷ z) (row_back r h.1)
