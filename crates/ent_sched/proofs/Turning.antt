-- Turns one after the other.
use Rattle.std.proofs.Common.{◌≡◌, ◌<◌, ◌+◌, ℕ, suc, arith, List, length, take, get_or, sym, subst}
use Rattle.std.specs.List.{AllByRecursion}
use Rattle.std.proofs.Math.Seq.{take-suc}
use Rattle.ent_lists.proofs.Lists.{all_behind}

-- what holds of the first so many, and of the next one
pub all_taken : {A : Type 0} (P : A → Type 0) (xs : List A) (i : ℕ) (d : A) → i < length xs
    → AllByRecursion P (take i xs) → P (get_or xs i d) → AllByRecursion P (take (i + 1) xs)
all_taken P xs i d within all one =
    let more : suc i ≡ i + 1 = omega arith in
    subst (λ n. AllByRecursion P (take n xs)) more
    (subst (AllByRecursion P) (sym (take-suc xs i d within)) (all_behind P (take i xs) (get_or xs i d) all one))
