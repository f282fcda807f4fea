-- Lists of two.
use Rattle.std.proofs.Common.{zero, suc, [], ◌∷◌, arith}
use Rattle.std.specs.Prelude.{AllPairs}

pub two_apart : {A : Type 0} (R : A → A → Type 0) (x y : A) → R x y → AllPairs R (x ∷ y ∷ [])
two_apart R x y h zero zero d i<j j<n = absurd (omega arith)
two_apart R x y h zero (suc zero) d i<j j<n = h
two_apart R x y h zero (suc (suc j)) d i<j j<n = absurd (omega arith)
two_apart R x y h (suc i) zero d i<j j<n = absurd (omega arith)
two_apart R x y h (suc i) (suc zero) d i<j j<n = absurd (omega arith)
two_apart R x y h (suc i) (suc (suc j)) d i<j j<n = absurd (omega arith)
