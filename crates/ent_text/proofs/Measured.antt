-- The length of what stands in quotes.
use Rattle.std.proofs.Common.{◌≡◌, ℕ, ◌+◌, ◌<◌, ◌≤◌, Bool, true, false, List, [], ◌∷◌, length, drop, get_or, Result, Ok}
use Rattle.std.proofs.Common.{Err, refl, ap, sym, ◌∙◌, arith, eqb, Some, cond, ltb}
use Rattle.std.proofs.lemmas.Bool.{ne_eqb}
use Rattle.std.proofs.lemmas.Bool.Decides.{nat_tests}
use Rattle.std.proofs.lemmas.List.{append-nil}
use Rattle.std.specs.Char.{is_ascii_control}
use Rattle.ent_text.specs.declared.fault.TextFault.{TextFault}
use Rattle.ent_text.specs.declared.fault.TextFault.TheVariants.{BadChar, OpenText}
use Rattle.ent_text.specs.Lexing.{Piece, with_byte, quoted_at, text_at}
use Rattle.ent_text.specs.View.{content, content_of, Encloses}
use Rattle.ent_text.specs.declared.token.TokenKind.TheVariants.{Literal}
use Rattle.ent_text.proofs.Reading.{Body, with_front, quoted-closed, quoted-control}

-- the closing quote ends what stands before it
pub closes : (quote place : ℕ) (front rest : List ℕ) (total : Body) → 0 < length rest → get_or rest 0 0 ≡ 39
    → (get_or rest 1 0 ≡ 39 → ⊥)
    → with_front front (quoted_at quote place rest) ≡ total → total ≡ Ok (front, drop 1 rest)
unfolding quoted_at
closes quote place front [] total lt is not kept = absurd (omega arith)
closes quote place front (x ∷ []) total lt is not kept =
    let here : quoted_at quote place (x ∷ []) ≡ Ok ([], []) = ap (λ (y : ℕ). quoted_at quote place (y ∷ [])) is in
    sym kept ∙ ap (with_front front) here ∙ ap (λ (ys : List ℕ). let r : Body = Ok (ys, []) in r) (append-nil front)
closes quote place front (x ∷ y ∷ rest) total lt is not kept =
    let here : quoted_at quote place (x ∷ y ∷ rest) ≡ Ok ([], y ∷ rest) =
    ap (λ (z : ℕ). quoted_at quote place (z ∷ y ∷ rest)) is ∙ quoted-closed quote place rest y (ne_eqb y 39 not) in
    sym kept ∙ ap (with_front front) here ∙ ap (λ (ys : List ℕ). let r : Body = Ok (ys, y ∷ rest) in r)
    (append-nil front)

pub controls : (quote place : ℕ) (front rest : List ℕ) (total : Body) → 0 < length rest → (get_or rest 0 0 ≡ 39 → ⊥)
    → is_ascii_control (get_or rest 0 0) ≡ true
    → with_front front (quoted_at quote place rest) ≡ total → total ≡ Err (BadChar place)
controls quote place front [] total lt not is kept = absurd (omega arith)
controls quote place front (x ∷ rest) total lt not is kept =
    sym kept ∙ ap (with_front front) (quoted-control quote place x rest (ne_eqb x 39 not) is)

pub opens : (quote place : ℕ) (front rest : List ℕ) (total : Body) → length rest ≡ 0
    → with_front front (quoted_at quote place rest) ≡ total → total ≡ Err (OpenText quote)
unfolding quoted_at
opens quote place front [] total e kept = sym kept
opens quote place front (x ∷ rest) total e kept = absurd (omega arith)

nothing_before : (read : Body) → with_front [] read ≡ read
nothing_before (Ok x) = refl
nothing_before (Err f) = refl

pub begins : (quote place : ℕ) (bytes : List ℕ)
    → with_front [] (quoted_at quote place bytes) ≡ quoted_at quote place bytes
begins quote place bytes = nothing_before (quoted_at quote place bytes)

choose : {A : Type 0} (t : Bool) (a b c d x : A) → (a ≡ x → c ≡ x) → (b ≡ x → d ≡ x) → cond t a b ≡ x → cond t c d ≡ x
choose true a b c d x f g e = f e
choose false a b c d x f g e = g e

byte_anywhere : (b : ℕ) (this that : Body) (x : List ℕ × List ℕ) → ((y : List ℕ × List ℕ) → this ≡ Ok y → that ≡ Ok y)
    → with_byte b this ≡ Ok x → with_byte b that ≡ Ok x
byte_anywhere b (Ok y) that x again e = ap (with_byte b) (again y refl) ∙ e
byte_anywhere b (Err f) that x again e = absurd cc

no_fault : (f g : TextFault) (x : List ℕ × List ℕ) → (let r : Body = Err f in r) ≡ Ok x
    → (let r : Body = Err g in r) ≡ Ok x
no_fault f g x e = absurd cc

-- what stands in quotes is the same wherever they stand
pub anywhere : (bytes : List ℕ) (quote place other at : ℕ) (x : List ℕ × List ℕ) → quoted_at quote place bytes ≡ Ok x
    → quoted_at other at bytes ≡ Ok x
unfolding quoted_at
anywhere [] quote place other at x e = absurd cc
anywhere (b ∷ []) quote place other at x e =
    choose (eqb b 39) (Ok ([], [])) (cond (is_ascii_control b) (Err (BadChar place)) (Err (OpenText quote)))
    (Ok ([], [])) (cond (is_ascii_control b) (Err (BadChar at)) (Err (OpenText other))) (Ok x)
    (λ h. h)
    (choose (is_ascii_control b) (Err (BadChar place)) (Err (OpenText quote)) (Err (BadChar at)) (Err (OpenText other))
    (Ok x) (no_fault (BadChar place) (BadChar at) x) (no_fault (OpenText quote) (OpenText other) x))
    e
anywhere (b ∷ c ∷ bytes) quote place other at x e =
    choose (eqb b 39)
    (cond (eqb c 39) (with_byte 39 (quoted_at quote (place + 2) bytes)) (Ok ([], c ∷ bytes)))
    (cond (is_ascii_control b) (Err (BadChar place)) (with_byte b (quoted_at quote (place + 1) (c ∷ bytes))))
    (cond (eqb c 39) (with_byte 39 (quoted_at other (at + 2) bytes)) (Ok ([], c ∷ bytes)))
    (cond (is_ascii_control b) (Err (BadChar at)) (with_byte b (quoted_at other (at + 1) (c ∷ bytes)))) (Ok x)
    (choose (eqb c 39) (with_byte 39 (quoted_at quote (place + 2) bytes)) (Ok ([], c ∷ bytes))
    (with_byte 39 (quoted_at other (at + 2) bytes)) (Ok ([], c ∷ bytes)) (Ok x)
    (byte_anywhere 39 (quoted_at quote (place + 2) bytes) (quoted_at other (at + 2) bytes) x
    (λ y h. anywhere bytes quote (place + 2) other (at + 2) y h)) (λ h. h))
    (choose (is_ascii_control b) (Err (BadChar place)) (with_byte b (quoted_at quote (place + 1) (c ∷ bytes)))
    (Err (BadChar at)) (with_byte b (quoted_at other (at + 1) (c ∷ bytes))) (Ok x)
    (no_fault (BadChar place) (BadChar at) x)
    (byte_anywhere b (quoted_at quote (place + 1) (c ∷ bytes)) (quoted_at other (at + 1) (c ∷ bytes)) x
    (λ y h. anywhere (c ∷ bytes) quote (place + 1) other (at + 1) y h)))
    e

not_over : (n : ℕ) → n ≤ 255 → ltb 255 n ≡ false
not_over n le = grind (arith, nat_tests)

-- a text within its limit is seen
pub text_is_seen : (place len : ℕ) (bytes behind rest : List ℕ) → behind ≡ drop 1 bytes
    → (inside : List ℕ) × (quoted_at place (place + 1) behind ≡ Ok (inside, rest)) × (length inside ≡ len) → len ≤ 255
    → (text_at place bytes ≡ Ok (Some (Literal (content behind)), rest)) × Encloses behind len (length rest)
unfolding text_at
text_is_seen place len bytes behind rest is (inside, e, size) le =
    let here : quoted_at place (place + 1) (drop 1 bytes) ≡ Ok (inside, rest) =
    ap (quoted_at place (place + 1)) (sym is) ∙ e in
    let there : quoted_at 0 0 behind ≡ Ok (inside, rest) = anywhere behind place (place + 1) 0 0 (inside, rest) e in
    let few : ltb 255 (length inside) ≡ false = not_over (length inside) (omega arith) in
    let read : text_at place bytes ≡ Ok (Some (Literal inside), rest) = rw (here, few) refl in
    let same : inside ≡ content behind = ap content_of (sym there) in (
      read ∙ ap (λ (xs : List ℕ). let r : Result Piece TextFault = Ok (Some (Literal xs), rest) in r) same,
      ((inside, rest), there, size, refl),
    )

pub two_there : (rest : List ℕ) → get_or rest 1 0 ≡ 39 → 1 < length rest
two_there [] e = absurd (omega arith)
two_there (x ∷ []) e = absurd (omega arith)
two_there (x ∷ y ∷ rest) e = omega arith
