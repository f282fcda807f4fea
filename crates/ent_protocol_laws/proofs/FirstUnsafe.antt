-- A pool has one first unsafe post at most.
use Rattle.std.proofs.Common.{◌≡◌, ℕ, Bool, true, false, cond, ◌==◌, List, [], refl, sym}
use Rattle.std.proofs.Common.{ap, ◌∙◌, arith, rules, nat_lt}
use Rattle.std.proofs.lemmas.Bool.{ltb-false}
use Rattle.std.specs.Ordering.{nat_cmp, ordering_then}
use Rattle.std.specs.declared.cmp.Ordering.{Ordering}
use Rattle.std.specs.declared.cmp.Ordering.TheVariants.{Less, Equal, Greater}
use Rattle.ent_semantics.specs.Pool.{Posted, Unsafe, IsFirstUnsafe, unsafe_cmp}
use Rattle.ent_protocol.specs.Member.{pool}

-- ---- one first fault

-- where neither of two numbers comes first, they are one, and what is behind them decides
level : (a b : ℕ) (one other : Ordering) → (ordering_then (nat_cmp a b) one ≡ Less → ⊥)
    → (ordering_then (nat_cmp b a) other ≡ Less → ⊥) → a ≡ b
level a b one other first second = by (nat_lt a b) refl (nat_lt b a) refl
  where
    less : (m n : ℕ) (behind : Ordering) → nat_lt m n ≡ true → ordering_then (nat_cmp m n) behind ≡ Less
    less m n behind is =
        ap (λ c. ordering_then (cond c Less (cond (m == n) Equal Greater)) behind) is

    by : (c : Bool) → nat_lt a b ≡ c → (d : Bool) → nat_lt b a ≡ d → a ≡ b
    by true is d it = absurd (first (less a b one is))
    by false is true it = absurd (second (less b a other it))
    by false is false it =
        let low = ltb-false a b is in let high = ltb-false b a it in omega (arith, low, high)

behind : (a b : ℕ) (one : Ordering) → a ≡ b → (ordering_then (nat_cmp a b) one ≡ Less → ⊥) → one ≡ Less → ⊥
behind a b one same first less = first (ap (λ c. ordering_then c one) equal ∙ less)
  where
    equal : nat_cmp a b ≡ Equal
    equal =
        let not_less : nat_lt a b ≡ false = grind (arith, rules, same) in
        let is : (a == b) ≡ true = grind (arith, rules, same) in
        (λ i. cond (not_less i) Less (cond (is i) Equal Greater))

not_before : (f g : Unsafe) → (unsafe_cmp f g ≡ Less → ⊥) → (unsafe_cmp g f ≡ Less → ⊥) → f ≡ g
not_before f g one other =
    let asker = level f.asker g.asker _ _ one other in
    let one_1 = behind f.asker g.asker _ asker one in
    let other_1 = behind g.asker f.asker _ (sym asker) other in
    let index = level f.index g.index _ _ one_1 other_1 in
    let one_2 = behind f.index g.index _ index one_1 in
    let other_2 = behind g.index f.index _ (sym index) other_1 in
    let first = level f.first g.first _ _ one_2 other_2 in
    let one_3 = behind f.first g.first _ first one_2 in
    let other_3 = behind g.first f.first _ (sym first) other_2 in
    let second = last f.second g.second one_3 other_3 in
    λ i. record { asker = asker i; index = index i; first = first i; second = second i }
  where
    last : (a b : ℕ) → (nat_cmp a b ≡ Less → ⊥) → (nat_cmp b a ≡ Less → ⊥) → a ≡ b
    last a b first second = by (nat_lt a b) refl (nat_lt b a) refl
      where
        by : (c : Bool) → nat_lt a b ≡ c → (d : Bool) → nat_lt b a ≡ d → a ≡ b
        by true is d it = absurd (first (ap (λ e. cond e Less (cond (a == b) Equal Greater)) is))
        by false is true it = absurd (second (ap (λ e. cond e Less (cond (b == a) Equal Greater)) it))
        by false is false it =
            let low = ltb-false a b is in let high = ltb-false b a it in omega (arith, low, high)

pub one_fault : (those : List Posted) (f g : Unsafe) → IsFirstUnsafe those f → IsFirstUnsafe those g → f ≡ g
one_fault those f g one other = not_before f g (other.1 f one.0) (one.1 g other.0)
