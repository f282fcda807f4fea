-- Groups by their numbers.
use Rattle.std.proofs.Common.{◌≡◌, ℕ, zero, suc, ◌+◌, ◌-◌, ◌<◌, ◌≤◌, true, false, cond, List, [], ◌∷◌, ◌++◌}
use Rattle.std.proofs.Common.{drop, length, min, take, length-drop, refl, sym, subst, ap, ◌∙◌, arith}
use Rattle.std.specs.Prelude.{nat_le, nat_lt}
use Rattle.std.proofs.lemmas.Bool.Decides.{nat_tests}
use Rattle.std.proofs.lemmas.List.{take_at}
use Rattle.ent_feed.specs.declared.group.Group.{Group}
use Rattle.ent_feed.specs.Feed.{behind, from}
use Rattle.ent_feed.specs.Group.{AreNumbered}

-- there are as many as numbers between
pub numbered_length : (first next : ℕ) (groups : List Group) → AreNumbered first groups next
    → first + length groups ≡ next
numbered_length first next [] numbered = omega (arith, numbered)
numbered_length first next (group ∷ more) numbered =
    let h = numbered_length (suc first) next more numbered.1 in
    omega arith

-- one more, of the next number
pub numbered_more : (first next : ℕ) (groups : List Group) (group : Group) → AreNumbered first groups next
    → group.number ≡ next → AreNumbered first (groups ++ group ∷ []) (next + 1)
numbered_more first next [] group numbered is = (is ∙ sym numbered, omega (arith, numbered))
numbered_more first next (one ∷ more) group numbered is =
    (numbered.0, numbered_more (suc first) next more group numbered.1 is)

-- others count on behind them
pub numbered_joined : (first middle next : ℕ) (groups more : List Group) → AreNumbered first groups middle
    → AreNumbered middle more next → AreNumbered first (groups ++ more) next
numbered_joined first middle next [] more same behind = subst (λ n. AreNumbered n more next) (sym same) behind
numbered_joined first middle next (group ∷ groups) more numbered behind =
    (numbered.0, numbered_joined (suc first) middle next groups more numbered.1 behind)

-- without the first ones
pub numbered_dropped : (count first next : ℕ) (groups : List Group) → AreNumbered first groups next
    → count ≤ length groups → AreNumbered (first + count) (drop count groups) next
numbered_dropped zero first next groups numbered few =
    let P : ℕ → Type 0 = λ n. AreNumbered n groups next in
    subst P (omega arith) numbered
numbered_dropped (suc count) first next [] numbered few = absurd (omega arith)
numbered_dropped (suc count) first next (group ∷ more) numbered few =
    let P : ℕ → Type 0 = λ n. AreNumbered n (drop count more) next in
    subst P (omega arith) (numbered_dropped count (suc first) next more numbered.1 (omega arith))

from_first : (number : ℕ) (group : Group) (more : List Group) → number ≤ group.number
    → from number (group ∷ more) ≡ group ∷ from number more
from_first number group more h =
    let is : nat_le number group.number ≡ true = grind (arith, nat_tests) in
    ap (λ b. cond b (group ∷ from number more) (from number more)) is

from_others : (number : ℕ) (group : Group) (more : List Group) → group.number < number
    → from number (group ∷ more) ≡ from number more
from_others number group more h =
    let is : nat_le number group.number ≡ false = grind (arith, nat_tests) in
    ap (λ b. cond b (group ∷ from number more) (from number more)) is

-- those from a number on are the last ones
pub from_dropped : (number first next : ℕ) (groups : List Group) → AreNumbered first groups next
    → drop (min (number - first) (length groups)) groups ≡ from number groups
from_dropped number first next groups numbered = by (min (number - first) (length groups)) first groups numbered refl
  where
    by : (count first : ℕ) (groups : List Group) → AreNumbered first groups next
        → count ≡ min (number - first) (length groups) → drop count groups ≡ from number groups
    by zero first [] numbered is = refl
    by (suc count) first [] numbered is = refl
    by zero first (group ∷ more) numbered is =
        ap (λ rest. group ∷ rest) (by zero (suc first) more numbered.1 (omega arith))
        ∙ sym (from_first number group more (omega (arith, numbered.0)))
    by (suc count) first (group ∷ more) numbered is =
        by count (suc first) more numbered.1 (omega arith)
        ∙ sym (from_others number group more (omega (arith, numbered.0)))

-- behind a number is from the next one on
pub behind_is_from : (number : ℕ) (groups : List Group) → behind number groups ≡ from (number + 1) groups
behind_is_from number [] = refl
behind_is_from number (group ∷ more) =
    let same : nat_lt number group.number ≡ nat_le (number + 1) group.number = grind (arith, nat_tests) in
    λ i. cond (same i) (group ∷ behind_is_from number more i) (behind_is_from number more i)

-- the first ones were moved behind the others, and cut off
module _ (number first next count kept : ℕ) (groups rotated left : List Group)
    (numbered : AreNumbered first groups next) (is : count ≡ min (number + 1 - first) (length groups))
    (rest : kept + count ≡ length groups) (moved : rotated ≡ drop count groups ++ take count groups)
    (cut : left ≡ take kept rotated) where
  left_dropped : left ≡ drop count groups
  left_dropped =
      cut ∙ ap (take kept) moved
      ∙ take_at (drop count groups) (take count groups) kept (omega (arith, length-drop count groups))

  pub left_behind : left ≡ behind number groups
  left_behind =
      left_dropped ∙ ap (λ n. drop n groups) is ∙ from_dropped (number + 1) first next groups numbered
      ∙ sym (behind_is_from number groups)

  pub left_numbered : AreNumbered (first + count) left next
  left_numbered =
      subst (λ (others : List Group). AreNumbered (first + count) others next) (sym left_dropped)
      (numbered_dropped count first next groups numbered (omega arith))
