-- Bytes that stand in quotes as they are.
use Rattle.std.proofs.Common.{◌≡◌, ℕ, suc, ◌+◌, ◌<◌, Bool, true, false, cond, eqb, List, [], ◌∷◌, ◌++◌, length, take}
use Rattle.std.proofs.Common.{drop, get_or, Ok, Err, refl, ap, sym, ◌∙◌, arith, append_assoc, length-drop}
use Rattle.std.specs.Prelude.{not, ◌||◌}
use Rattle.std.proofs.lemmas.Bool.{ne_eqb}
use Rattle.std.proofs.lemmas.List.{get_or-drop}
use Rattle.std.proofs.lemmas.List.Sums.{prefix_len_stops}
use Rattle.std.specs.List.{prefix_len}
use Rattle.std.specs.Char.{is_ascii_control}
use Rattle.ent_text.specs.Lexing.{with_byte, quoted_at}
use Rattle.ent_text.specs.View.{is_verbatim}
use Rattle.ent_text.proofs.Reading.{Body, with_front, quoted-other}
use Rattle.ent_text.proofs.Measured.{begins}

neither : (t u : Bool) → not (t || u) ≡ true → (t ≡ false) × (u ≡ false)
neither false false e = (refl, refl)
neither false true e = absurd cc
neither true u e = absurd cc

-- a byte that ends a run and is no quote is a control character
pub control_there : (b : ℕ) → is_verbatim b ≡ false → (b ≡ 39 → ⊥) → is_ascii_control b ≡ true
control_there b e other = by (eqb b 39) (is_ascii_control b) (ne_eqb b 39 other) e
  where
    by : (t u : Bool) → t ≡ false → not (t || u) ≡ false → u ≡ true
    by false true f g = refl
    by false false f g = absurd cc
    by true u f g = absurd cc

-- what ends a run doesn't stand as it is
pub run_stops : (len : ℕ) (bytes rest : List ℕ) → len ≡ prefix_len is_verbatim bytes → rest ≡ drop len bytes
    → 0 < length rest → is_verbatim (get_or rest 0 0) ≡ false
run_stops len bytes rest run behind some =
    let here : len + 0 ≡ prefix_len is_verbatim bytes = omega (arith, run) in
    ap (λ (xs : List ℕ). is_verbatim (get_or xs 0 0)) behind
    ∙ ap is_verbatim (get_or-drop len bytes 0 0 ∙ ap (λ (k : ℕ). get_or bytes k 0) here) ∙
    prefix_len_stops is_verbatim bytes 0 (omega (arith, run, length-drop len bytes, ap length behind))

byte_before : (b : ℕ) (front : List ℕ) (read : Body) → with_byte b (with_front front read) ≡ with_front (b ∷ front) read
byte_before b front (Ok x) = refl
byte_before b front (Err f) = refl

-- a run is passed over at once
run_on : (quote place : ℕ) (bytes : List ℕ)
    → with_front (take (prefix_len is_verbatim bytes) bytes)
    (quoted_at quote (place + prefix_len is_verbatim bytes) (drop (prefix_len is_verbatim bytes) bytes)) ≡ quoted_at
    quote place bytes
unfolding quoted_at
run_on quote place [] = refl
run_on quote place (b ∷ bytes) = by (is_verbatim b) refl (run_on quote (place + 1) bytes)
  where
    by : (t : Bool) → is_verbatim b ≡ t
        → with_front (take (prefix_len is_verbatim bytes) bytes)
        (quoted_at quote (place + 1 + prefix_len is_verbatim bytes) (drop (prefix_len is_verbatim bytes) bytes))
        ≡ quoted_at quote (place + 1) bytes
        → with_front (take (cond t (1 + prefix_len is_verbatim bytes) 0) (b ∷ bytes))
        (quoted_at quote (place + cond t (1 + prefix_len is_verbatim bytes) 0)
        (drop (cond t (1 + prefix_len is_verbatim bytes) 0) (b ∷ bytes))) ≡ quoted_at quote place (b ∷ bytes)
    by true e more =
        let n = prefix_len is_verbatim bytes in
        let h = neither (eqb b 39) (is_ascii_control b) e in
        let one : 1 + n ≡ suc n = omega arith in
        let far : place + suc n ≡ place + 1 + n = omega arith in
        ap (λ (k : ℕ). with_front (take k (b ∷ bytes)) (quoted_at quote (place + k) (drop k (b ∷ bytes)))) one ∙
        ap (λ (k : ℕ). with_front (b ∷ take n bytes) (quoted_at quote k (drop n bytes))) far ∙
        sym (byte_before b (take n bytes) (quoted_at quote (place + 1 + n) (drop n bytes))) ∙
        ap (with_byte b) more ∙ sym (quoted-other quote place b bytes h.0 h.1)
    by false e more =
        let none : place + 0 ≡ place = omega arith in
        ap (λ (k : ℕ). with_front [] (quoted_at quote k (b ∷ bytes))) none ∙ begins quote place (b ∷ bytes)

front_twice : (front run : List ℕ) (read : Body)
    → with_front (front ++ run) read ≡ with_front front (with_front run read)
front_twice front run (Ok x) = ap (λ (xs : List ℕ). let r : Body = Ok (xs, x.1) in r) (append_assoc front run x.0)
front_twice front run (Err f) = refl

-- what was passed over, with a run, and what is left are all
pub over_run : (quote place len : ℕ) (front bytes rest : List ℕ) (total : Body) → len ≡ prefix_len is_verbatim bytes
    → rest ≡ drop len bytes → with_front front (quoted_at quote place bytes) ≡ total
    → with_front (front ++ take len bytes) (quoted_at quote (place + len) rest) ≡ total
over_run quote place len front bytes rest total run behind kept =
    ap (λ (xs : List ℕ). with_front (front ++ take len bytes) (quoted_at quote (place + len) xs)) behind ∙
    front_twice front (take len bytes) (quoted_at quote (place + len) (drop len bytes)) ∙
    ap (λ (k : ℕ). with_front front (with_front (take k bytes) (quoted_at quote (place + k) (drop k bytes)))) run ∙
    ap (with_front front) (run_on quote place bytes) ∙ kept
