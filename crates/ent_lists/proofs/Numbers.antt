-- Laws of numbers, and of how they are told apart.
use Rattle.std.proofs.Common.{◌≡◌, ◌<◌, ◌≤◌, ◌+◌, ℕ, suc, ◌==◌, nat_eq, Bool, true, false, refl, arith}
use Rattle.std.proofs.lemmas.Bool.Decides.{nat_tests}
use Rattle.std.proofs.lemmas.Grind.{common_steps}
use Rattle.std.specs.Ordering.{nat_cmp, is_eq}
use Rattle.std.specs.declared.cmp.Ordering.TheVariants.{Greater}

pub plus_zero : (n : ℕ) → n ≡ n + 0
plus_zero n = omega arith

pub plus_one : (n : ℕ) → n + 1 ≡ suc n
plus_one n = omega arith

pub plus_suc : (first j : ℕ) → suc first + j ≡ first + suc j
plus_suc first j = omega arith

pub eq_above : (a b : ℕ) → b < a → (a == b) ≡ false
eq_above a b above = grind (arith, nat_tests)

pub eq_below : (n m : ℕ) → n < m → nat_eq n m ≡ false
eq_below n m below = grind (arith, nat_tests)

pub cmp_above : (a b : ℕ) → b < a → nat_cmp a b ≡ Greater
cmp_above a b low = grind (arith, common_steps)

pub cmp_equal : (a b : ℕ) → is_eq (nat_cmp a b) ≡ (a == b)
cmp_equal a b = grind (arith, nat_tests)

-- one more where the test holds
abbrev pub one_if : Bool → ℕ → ℕ
one_if true k = suc k
one_if false k = k

pub one_added : (b : Bool) (j k : ℕ) → one_if b (j + k) ≡ one_if b j + k
one_added true j k = omega arith
one_added false j k = refl

pub one_more : (b : Bool) (k : ℕ) → k ≤ one_if b k
one_more true k = omega arith
one_more false k = omega arith
