-- The label of a transaction among members that stand by number.
use Rattle.std.proofs.Common.{◌≡◌, ◌≢◌, ℕ, zero, suc, ◌+◌, ◌<◌, ◌==◌, true, false, if◌then◌else◌, List, [], ◌∷◌}
use Rattle.std.proofs.Common.{length, count_by, nat_lt, refl, subst, arith, get_or}
use Rattle.std.specs.Prelude.{All, Option, None, Some}
use Rattle.std.proofs.lemmas.Bool.Decides.{nat_tests}
use Rattle.std.proofs.lemmas.List.Elements.{All-weaker}
use Rattle.std.proofs.lemmas.List.Sums.{sum_by-cons}
use Rattle.ent_group.specs.declared.groups.Membership.{Membership}
use Rattle.ent_group.specs.Groups.{group_of, IsByNumber}
use Rattle.ent_group.proofs.Labels.{by_number_head, by_number_tail, none_above, none_below}

here_step : (k tx g : ℕ) (o : Option ℕ) → k ≡ tx → (if k == tx then Some g else o) ≡ Some g
here_step k tx g o same = grind (arith, nat_tests)

later_step : (k tx g : ℕ) (o p : Option ℕ) → (k ≢ tx) → o ≡ p → (if k == tx then Some g else o) ≡ p
later_step k tx g o p other rest = grind (arith, nat_tests)

-- one that stands at a place has the label that stands there
pub label_here : (ms : List Membership) (at tx : ℕ) (d : Membership) → IsByNumber ms → at < length ms
    → (get_or ms at d).member ≡ tx → group_of ms tx ≡ Some (get_or ms at d).group
label_here [] at tx d by_number within here = absurd (omega (arith, within))
label_here (m ∷ ms) zero tx d by_number within here = here_step m.member tx m.group (group_of ms tx) here
label_here (m ∷ ms) (suc at) tx d by_number within here =
    let above : m.member < (get_or ms at d).member = by_number 0 (suc at) d (omega arith) within in
    later_step m.member tx m.group (group_of ms tx) _ (λ same. absurd (omega (arith, above, same, here)))
    (label_here ms at tx d (by_number_tail m ms by_number) (omega (arith, within)) here)

below_other : (k tx : ℕ) → nat_lt k tx ≡ true → k ≢ tx
below_other k tx below = λ same. grind (arith, nat_tests)

above_of : (k tx : ℕ) → nat_lt k tx ≡ false → (k ≢ tx) → tx < k
above_of k tx not_below other = grind (arith, nat_tests)

-- one that doesn't stand behind all of smaller numbers stands nowhere
pub label_nowhere : (ms : List Membership) (tx : ℕ) (d : Membership) → IsByNumber ms
    → (count_by (λ m. nat_lt m.member tx) ms < length ms
    → (get_or ms (count_by (λ m. nat_lt m.member tx) ms) d).member ≢ tx) → group_of ms tx ≡ None
label_nowhere [] tx d by_number other = refl
label_nowhere (m ∷ ms) tx d by_number other =
    let rest = count_by (λ n. nat_lt n.member tx) ms in
    let at_other : ℕ → Type 0 = λ i. i < suc (length ms) → (get_or (m ∷ ms) i d).member ≢ tx in
    let counted = sum_by-cons (λ n. if nat_lt n.member tx then 1 else 0) m ms in
    elim (nat_lt m.member tx) as (λ b. nat_lt m.member tx ≡ b → at_other ((if b then 1 else 0) + rest)
    → group_of (m ∷ ms) tx ≡ None) [
      | true ↦ λ below behind.
          let one_more : 1 + rest ≡ suc rest = omega arith in
          let behind_it : at_other (suc rest) = subst at_other one_more behind in
          later_step m.member tx m.group (group_of ms tx) None (below_other m.member tx below)
          (label_nowhere ms tx d (by_number_tail m ms by_number) (λ within. behind_it (omega (arith, within))))
      | false ↦ λ not_below behind.
          let all_above = by_number_head m ms by_number in
          let none : rest ≡ 0 = none_below tx ms (all_from m.member tx ms not_below all_above) in
          let first : 0 + rest ≡ 0 = omega (arith, none) in
          let head : m.member ≢ tx = subst at_other first behind (omega arith) in
          let above : tx < m.member = above_of m.member tx not_below head in
          later_step m.member tx m.group (group_of ms tx) None head
          (none_above tx ms (All-weaker (λ n. m.member < n.member) (λ n. tx < n.member)
          (λ n more. omega (arith, above, more)) ms all_above))
    ] refl (subst at_other counted other)
  where
    not_above : (k n tx : ℕ) → nat_lt k tx ≡ false → k < n → tx < n
    not_above k n tx is more = grind (arith, nat_tests)

    all_from : (k tx : ℕ) (ms : List Membership) → nat_lt k tx ≡ false → All (λ n. k < n.member) ms
        → All (λ n. tx < n.member) ms
    all_from k tx ms is all = All-weaker (λ n. k < n.member) (λ n. tx < n.member)
        (λ n more. not_above k n.member tx is more) ms all

pub label_behind : (ms : List Membership) (tx at : ℕ) (d : Membership) → IsByNumber ms
    → at ≡ count_by (λ m. nat_lt m.member tx) ms → (at < length ms → (get_or ms at d).member ≢ tx)
    → group_of ms tx ≡ None
label_behind ms tx at d by_number is other =
    label_nowhere ms tx d by_number (subst (λ i. i < length ms → (get_or ms i d).member ≢ tx) is other)
