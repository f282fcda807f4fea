-- A search by number.
use Rattle.std.proofs.Common.{◌≡◌, ◌≢◌, ℕ, ◌+◌, ◌<◌, ◌≤◌, Bool, true, false, nat_lt, List, get_or, refl, ap}
use Rattle.std.proofs.Common.{◌∙◌, arith}
use Rattle.std.specs.List.Sorted.{IsNonDecreasingBy, IsPartitionPoint}
use Rattle.std.specs.Ordering.{is_lt, nat_cmp, ordering_index}
use Rattle.std.specs.declared.cmp.Ordering.TheVariants.{Less, Greater}
use Rattle.std.proofs.lemmas.Bool.Decides.{nat_tests}
use Rattle.std.proofs.lemmas.Cmp.{nat_cmp_total}
use Rattle.std.proofs.lemmas.List.Sorted.{searchable_from_sorted}
use Rattle.ent_semantics.specs.Pool.{Posted}
use Rattle.ent_match.specs.Fault.{IsByNumber}
use Rattle.ent_match.specs.Place.{HasNoneOf}

abbrev tx_of : Posted → ℕ
tx_of member = member.tx

rises : (pool : List Posted) (tx : ℕ) → IsByNumber pool
    → IsNonDecreasingBy (λ (m : Posted). ordering_index (nat_cmp m.tx tx)) pool
rises pool tx ordered =
    searchable_from_sorted nat_cmp_total tx_of pool tx (λ k d low next.
    not_lower (get_or pool k d).tx (get_or pool (k + 1) d).tx
    (ordered k (k + 1) d (omega arith) (omega (arith, next))))
  where
    not_lower : (n m : ℕ) → n < m → is_lt (nat_cmp m n) ≡ false
    not_lower n m lt = grind (arith, nat_tests, lt)

not_less : (n m : ℕ) → nat_cmp n m ≡ Less → n ≢ m
not_less n m is same = let below : n < m = grind (arith, nat_tests, is) in omega arith

not_greater : (n m : ℕ) → nat_cmp n m ≡ Greater → n ≢ m
not_greater n m is same = let above : m < n = grind (arith, nat_tests, is) in omega arith

-- where none is of the transaction
pub nowhere : (pool : List Posted) (tx i : ℕ) → IsByNumber pool
    → (IsNonDecreasingBy (λ (m : Posted). ordering_index (nat_cmp m.tx tx)) pool
    → IsPartitionPoint (λ (m : Posted). nat_cmp m.tx tx ≡ Less) (λ (m : Posted). nat_cmp m.tx tx ≡ Greater) pool i)
    → HasNoneOf pool tx
nowhere pool tx i ordered parted member (k, below, is) same =
    on_a_side (nat_lt k i) refl (ap tx_of is ∙ same)
  where
    sides : IsPartitionPoint (λ (m : Posted). nat_cmp m.tx tx ≡ Less) (λ (m : Posted). nat_cmp m.tx tx ≡ Greater) pool i
    sides = parted (rises pool tx ordered)

    before : nat_lt k i ≡ true → k < i
    before is = grind (arith, nat_tests, is)

    beyond : nat_lt k i ≡ false → i ≤ k
    beyond is = grind (arith, nat_tests, is)

    on_a_side : (b : Bool) → nat_lt k i ≡ b → (get_or pool k member).tx ≢ tx
    on_a_side true low = not_less (get_or pool k member).tx tx (sides.0 k member (omega arith) (before low))
    on_a_side false high = not_greater (get_or pool k member).tx tx (sides.1 k member (beyond high) below)
