-- What the code writes.
use Rattle.std.proofs.Common.{◌≡◌, ℕ, ℤ, pos, negsuc, zero, suc, ◌+◌, ◌%◌, ◌^◌, List, [], ◌∷◌, ◌++◌, FitsSigned, false}
use Rattle.std.proofs.Common.{refl, sym, ◌∙◌, ap, arith, eqb}
use Rattle.std.specs.Prelude.{if◌then◌else◌, ◌||◌}
use Rattle.std.proofs.lemmas.Bool.Decides.{nat_tests}
use Rattle.std.specs.Int.{w64, cast_unsigned}
use Rattle.std.specs.List.{list_any}
use Rattle.ent_page.specs.Key.{lifted, text_key}

pub bits_lifted : (n : ℤ) → FitsSigned w64 n → (cast_unsigned w64 n + 2 ^ 63) % 2 ^ 64 ≡ lifted n
bits_lifted (pos n) h = omega (arith, h.sfits)
bits_lifted (negsuc n) h = omega (arith, h.sfits)

pub not_zero : (b : ℕ) → eqb (suc b) 0 ≡ false
not_zero b = grind (arith, nat_tests)

-- a byte that is not 0 stands as it is
pub text_key-suc : (b : ℕ) (t : List ℕ) → text_key (suc b ∷ t) ≡ suc b ∷ text_key t
text_key-suc b t = ap (λ z. if z then 0 ∷ 255 ∷ text_key t else (suc b ∷ text_key t)) (not_zero b)

-- a text with no 0 stands as it is
pub plain : (t : List ℕ) → list_any (λ b. eqb b 0) t ≡ false → text_key t ≡ t ++ 0 ∷ 0 ∷ []
plain [] h = refl
plain (zero ∷ t) h = cc
plain (suc b ∷ t) h = text_key-suc b t
    ∙ ap (λ z. suc b ∷ z) (plain t (ap (λ z. z || list_any (λ b. eqb b 0) t) (sym (not_zero b)) ∙ h))
