-- Reading on behind what was read.
use Rattle.std.proofs.Common.{◌≡◌, ℕ, suc, ◌+◌, ◌-◌, ◌*◌, ◌<◌, ◌≤◌, true, false, List, [], ◌∷◌, ◌++◌, length, drop}
use Rattle.std.proofs.Common.{get_or, Result, Ok, Err, refl, ap, append_assoc, sym, ◌∙◌, arith, eqb, drop-cons}
use Rattle.std.proofs.lemmas.Bool.{ne_eqb}
use Rattle.std.proofs.lemmas.List.{length-drop}
use Rattle.std.specs.Char.{is_ascii_control}
use Rattle.ent_text.specs.declared.fault.TextFault.{TextFault}
use Rattle.ent_text.specs.declared.fault.TextFault.TheVariants.{BadChar}
use Rattle.ent_value.specs.Refusal.{◌>>=◌}
use Rattle.ent_text.specs.Lexing.{with_byte, value_from, quoted_at}

pub value_grows : (digits : List ℕ) (value : ℕ) → value ≤ value_from value digits
value_grows [] value = omega arith
value_grows (d ∷ digits) value = omega (arith, value_grows digits (value * 10 + (d - 48)))

abbrev pub Body : Type 0
Body = Result (List ℕ × List ℕ) TextFault

abbrev pub with_front : List ℕ → Body → Body
with_front front read = read >>= λ x. Ok (front ++ x.0, x.1)

pub with_front-with_byte : (front : List ℕ) (b : ℕ) (read : Body)
    → with_front front (with_byte b read) ≡ with_front (front ++ b ∷ []) read
with_front-with_byte front b (Ok x) =
    ap (λ (y : List ℕ). let r : Body = Ok (y, x.1) in r) (sym (append_assoc front (b ∷ []) x.0))
with_front-with_byte front b (Err e) = refl

pub quoted-doubled : (quote place : ℕ) (bytes : List ℕ)
    → quoted_at quote place (39 ∷ 39 ∷ bytes) ≡ with_byte 39 (quoted_at quote (place + 2) bytes)
unfolding quoted_at
quoted-doubled quote place bytes = refl

pub quoted-closed : (quote place : ℕ) (bytes : List ℕ) (c : ℕ) → eqb c 39 ≡ false
    → quoted_at quote place (39 ∷ c ∷ bytes) ≡ Ok ([], c ∷ bytes)
unfolding quoted_at
quoted-closed quote place bytes c e = rw e refl

pub quoted-control : (quote place b : ℕ) (bytes : List ℕ) → eqb b 39 ≡ false → is_ascii_control b ≡ true
    → quoted_at quote place (b ∷ bytes) ≡ Err (BadChar place)
unfolding quoted_at
quoted-control quote place b [] e f = rw (e, f) refl
quoted-control quote place b (c ∷ bytes) e f = rw (e, f) refl

pub quoted-other : (quote place b : ℕ) (bytes : List ℕ) → eqb b 39 ≡ false → is_ascii_control b ≡ false
    → quoted_at quote place (b ∷ bytes) ≡ with_byte b (quoted_at quote (place + 1) bytes)
unfolding quoted_at
quoted-other quote place b [] e f = rw (e, f) refl
quoted-other quote place b (c ∷ bytes) e f = rw (e, f) refl

-- what goes on above the limit ends above it
pub over_at_once : (i value total : ℕ) (digits : List ℕ) → i < length digits → 922337203685477580 < value
    → value_from value (drop i digits) ≡ total → 9223372036854775807 < total
over_at_once i value total digits lt over e =
    let cut : drop i digits ≡ get_or digits i 0 ∷ drop (suc i) digits = drop-cons digits i 0 lt in
    let g = value_grows (drop (suc i) digits) (value * 10 + (get_or digits i 0 - 48)) in
    let whole : value_from (value * 10 + (get_or digits i 0 - 48)) (drop (suc i) digits) ≡ total =
    sym (ap (value_from value) cut) ∙ e in
    omega arith

pub over_behind : (i value d total : ℕ) (digits : List ℕ) → i < length digits → d ≡ get_or digits i 0 - 48
    → 9223372036854775807 < value * 10 + d → value_from value (drop i digits) ≡ total → 9223372036854775807 < total
over_behind i value d total digits lt is over e =
    let cut : drop i digits ≡ get_or digits i 0 ∷ drop (suc i) digits = drop-cons digits i 0 lt in
    let g = value_grows (drop (suc i) digits) (value * 10 + (get_or digits i 0 - 48)) in
    let whole : value_from (value * 10 + (get_or digits i 0 - 48)) (drop (suc i) digits) ≡ total =
    sym (ap (value_from value) cut) ∙ e in
    omega arith

pub left_length : (k : ℕ) (rest next : List ℕ) → k ≤ length rest → next ≡ drop k rest → length next + k ≡ length rest
left_length k rest next le is = omega (arith, ap length is, length-drop k rest)

pub on_other : (quote place b : ℕ) (front items rest next : List ℕ) (total : Body) → 0 < length rest
    → b ≡ get_or rest 0 0 → (b ≡ 39 → ⊥) → is_ascii_control b ≡ false → items ≡ front ++ b ∷ [] → next ≡ drop 1 rest
    → with_front front (quoted_at quote place rest) ≡ total
    → with_front items (quoted_at quote (place + 1) next) ≡ total
on_other quote place b front items [] next total lt is e f pushed left kept = absurd (omega arith)
on_other quote place b front items (x ∷ rest) next total lt is e f pushed left kept =
    ap (λ (y : List ℕ). with_front y (quoted_at quote (place + 1) next)) pushed
    ∙ ap (λ (y : List ℕ). with_front (front ++ b ∷ []) (quoted_at quote (place + 1) y)) left
    ∙ sym (with_front-with_byte front b (quoted_at quote (place + 1) rest))
    ∙ ap (with_front front) (sym (quoted-other quote place b rest (ne_eqb b 39 e) f)
    ∙ ap (λ (y : ℕ). quoted_at quote place (y ∷ rest)) is) ∙ kept

pub on_doubled : (quote place : ℕ) (front items rest next : List ℕ) (total : Body) → 1 < length rest
    → get_or rest 0 0 ≡ 39 → get_or rest 1 0 ≡ 39 → items ≡ front ++ 39 ∷ [] → next ≡ drop 2 rest
    → with_front front (quoted_at quote place rest) ≡ total
    → with_front items (quoted_at quote (place + 2) next) ≡ total
on_doubled quote place front items [] next total lt is also pushed left kept = absurd (omega arith)
on_doubled quote place front items (x ∷ []) next total lt is also pushed left kept = absurd (omega arith)
on_doubled quote place front items (x ∷ y ∷ rest) next total lt is also pushed left kept =
    ap (λ (z : List ℕ). with_front z (quoted_at quote (place + 2) next)) pushed
    ∙ ap (λ (z : List ℕ). with_front (front ++ 39 ∷ []) (quoted_at quote (place + 2) z)) left
    ∙ sym (with_front-with_byte front 39 (quoted_at quote (place + 2) rest))
    ∙ ap (with_front front) (sym (quoted-doubled quote place rest)
    ∙ ap (λ (z : ℕ). quoted_at quote place (39 ∷ z ∷ rest)) (sym also)
    ∙ ap (λ (z : ℕ). quoted_at quote place (z ∷ y ∷ rest)) (sym is)) ∙ kept
