-- Texts and the bytes that they take.
use Rattle.std.proofs.Common.{◌≡◌, ◌≤◌, ◌+◌, ℕ, Bool, true, false, cond, eqb, List, [], ◌∷◌, length, take, Ok, Err}
use Rattle.std.proofs.Common.{ap, sym, refl, subst, ◌∙◌, arith}
use Rattle.std.specs.Char.{is_ascii_control}
use Rattle.ent_text.specs.declared.fault.TextFault.{TextFault}
use Rattle.ent_text.specs.declared.fault.TextFault.TheVariants.{BadChar, OpenText}
use Rattle.ent_text.specs.Lexing.{with_byte, quoted_at}
use Rattle.ent_text.specs.View.{content, content_of, Encloses}
use Rattle.ent_text.proofs.Reading.{Body}

-- what was read takes no more than there is; where it takes just that, it stands in front
abbrev Fits : List ℕ → List ℕ × List ℕ → Type 0
Fits bytes text =
    (1 + length text.0 + length text.1 ≤ length bytes)
    × (1 + length text.0 + length text.1 ≡ length bytes → take (length text.0) bytes ≡ text.0)

nothing_inside : (b : ℕ) (bytes : List ℕ) (x : List ℕ × List ℕ) → (let r : Body = Ok ([], bytes) in r) ≡ Ok x
    → Fits (b ∷ bytes) x
nothing_inside b bytes x e = let same : ([], bytes) ≡ x = cc in subst (Fits (b ∷ bytes)) same (omega arith, λ h. refl)

none : {A : Type 0} (f : TextFault) (x : List ℕ × List ℕ) → (let r : Body = Err f in r) ≡ Ok x → A
none f x e = absurd cc

read_before : (b : ℕ) (read : Body) (x : List ℕ × List ℕ) → with_byte b read ≡ Ok x
    → (y : List ℕ × List ℕ) × (read ≡ Ok y) × ((b ∷ y.0, y.1) ≡ x)
read_before b (Ok y) x e = (y, refl, cc)
read_before b (Err f) x e = absurd cc

one_more : (b : ℕ) (bytes : List ℕ) (y : List ℕ × List ℕ) → Fits bytes y → Fits (b ∷ bytes) (b ∷ y.0, y.1)
one_more b bytes y fits = (omega (arith, fits.0), λ h. ap (λ (xs : List ℕ). b ∷ xs) (fits.1 (omega (arith, h))))

two_more : (b c : ℕ) (bytes : List ℕ) (y : List ℕ × List ℕ) → Fits bytes y → Fits (b ∷ c ∷ bytes) (39 ∷ y.0, y.1)
two_more b c bytes y fits = (omega (arith, fits.0), λ h. absurd (omega (arith, fits.0, h)))

fits : (bytes : List ℕ) (quote place : ℕ) (x : List ℕ × List ℕ) → quoted_at quote place bytes ≡ Ok x → Fits bytes x
unfolding quoted_at
fits [] quote place x e = absurd cc
fits (b ∷ []) quote place x e = on (eqb b 39) (is_ascii_control b) e
  where
    on : (t u : Bool)
        → cond t (let r : Body = Ok ([], []) in r) (cond u (Err (BadChar place)) (Err (OpenText quote))) ≡ Ok x
        → Fits (b ∷ []) x
    on true u e = nothing_inside b [] x e
    on false true e = none (BadChar place) x e
    on false false e = none (OpenText quote) x e
fits (b ∷ c ∷ bytes) quote place x e =
    on (eqb b 39) (eqb c 39) (is_ascii_control b) (λ y h. fits bytes quote (place + 2) y h)
    (λ y h. fits (c ∷ bytes) quote (place + 1) y h) e
  where
    on : (t u v : Bool)
        → ((y : List ℕ × List ℕ) → quoted_at quote (place + 2) bytes ≡ Ok y → Fits bytes y)
        → ((y : List ℕ × List ℕ) → quoted_at quote (place + 1) (c ∷ bytes) ≡ Ok y → Fits (c ∷ bytes) y)
        → cond t (cond u (with_byte 39 (quoted_at quote (place + 2) bytes)) (Ok ([], c ∷ bytes)))
        (cond v (Err (BadChar place)) (with_byte b (quoted_at quote (place + 1) (c ∷ bytes)))) ≡ Ok x
        → Fits (b ∷ c ∷ bytes) x
    on true true v far near e =
        let before = read_before 39 (quoted_at quote (place + 2) bytes) x e in
        subst (Fits (b ∷ c ∷ bytes)) before.2 (two_more b c bytes before.0 (far before.0 before.1))
    on true false v far near e = nothing_inside b (c ∷ bytes) x e
    on false u true far near e = none (BadChar place) x e
    on false u false far near e =
        let before = read_before b (quoted_at quote (place + 1) (c ∷ bytes)) x e in
        subst (Fits (b ∷ c ∷ bytes)) before.2 (one_more b (c ∷ bytes) before.0 (near before.0 before.1))

-- the bytes of a text are all but those behind it
pub all_but_left : (behind : List ℕ) (len left : ℕ) → Encloses behind len left → 1 + len + left ≤ length behind
all_but_left behind len left (text, e, long, few) = omega (arith, (fits behind 0 0 text e).0, long, few)

-- a text that takes no more bytes than its content and a quote stands as it is
pub stands_there : (behind front : List ℕ) (len left : ℕ) → Encloses behind len left → front ≡ take len behind
    → 1 + len + left ≡ length behind → front ≡ content behind
stands_there behind front len left (text, e, long, few) is whole =
    is ∙ ap (λ (k : ℕ). take k behind) (sym long) ∙ (fits behind 0 0 text e).1 (omega (arith, long, few, whole))
    ∙ sym (ap content_of e)
