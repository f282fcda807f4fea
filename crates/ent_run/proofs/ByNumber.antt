-- Members of distinct numbers that are put in order.
use Rattle.std.proofs.Common.{◌≡◌, ℕ, suc, ◌<◌, ◌≤◌, Bool, true, false, nat_lt, nat_eq, if◌then◌else◌, List, [], ◌∷◌}
use Rattle.std.proofs.Common.{length, map, refl, sym, ap, subst, arith}
use Rattle.std.specs.List.{IsDistinct, AllByRecursion}
use Rattle.std.proofs.lemmas.Bool.Decides.{nat_tests}
use Rattle.std.proofs.lemmas.Bool.{ltb-true}
use Rattle.ent_lists.proofs.Lists.{all_above}
use Rattle.ent_protocol.specs.Run.{fresh}
use Rattle.ent_protocol.specs.State.{Member, Dormant, inserted, by_number}
use Rattle.ent_members.specs.Order.{IsAscending, tx_of}
use Rattle.ent_members.proofs.ByNumber.{length-by_number}
use Rattle.ent_run.specs.Run.{IsRun}
use Rattle.ent_run.proofs.Ascending.{run_by_number}

all_if : (P : ℕ → Type 0) (x y : Member) (ys : List Member) (b : Bool) → P x.tx → P y.tx
    → AllByRecursion P (map tx_of ys) → AllByRecursion P (map tx_of (inserted tx_of x ys))
    → AllByRecursion P (map tx_of (if b then x ∷ y ∷ ys else y ∷ inserted tx_of x ys))
all_if P x y ys true px py here rest = (px, (py, here))
all_if P x y ys false px py here rest = (py, rest)

all-inserted : (P : ℕ → Type 0) (x : Member) (xs : List Member) → P x.tx → AllByRecursion P (map tx_of xs)
    → AllByRecursion P (map tx_of (inserted tx_of x xs))
all-inserted P x [] px all = (px, all)
all-inserted P x (y ∷ ys) px all =
    all_if P x y ys (nat_lt x.tx y.tx) px all.0 all.1 (all-inserted P x ys px all.1)

all-by_number : (P : ℕ → Type 0) (xs : List Member) → AllByRecursion P (map tx_of xs)
    → AllByRecursion P (map tx_of (by_number tx_of xs))
all-by_number P [] all = all
all-by_number P (x ∷ xs) all = all-inserted P x (by_number tx_of xs) all.0 (all-by_number P xs all.1)

lower : (a b : ℕ) → nat_lt a b ≡ false → nat_eq a b ≡ false → b < a
lower a b below apart = grind (arith, nat_tests)

ascending_if : (x y : Member) (ys : List Member) (b : Bool) → nat_lt x.tx y.tx ≡ b
    → AllByRecursion (λ n. nat_eq x.tx n ≡ false) (map tx_of (y ∷ ys)) → IsAscending (map tx_of (y ∷ ys))
    → IsAscending (map tx_of (inserted tx_of x ys))
    → IsAscending (map tx_of (if b then x ∷ y ∷ ys else y ∷ inserted tx_of x ys))
ascending_if x y ys true first apart ascending rest =
    let below : x.tx < y.tx = ltb-true x.tx y.tx first in
    ((below, all_above x.tx y.tx (map tx_of ys) below ascending.0), ascending)
ascending_if x y ys false first apart ascending rest =
    (all-inserted (λ n. y.tx < n) x ys (lower x.tx y.tx first apart.0) ascending.0, rest)

ascending-inserted : (x : Member) (xs : List Member) → AllByRecursion (λ n. nat_eq x.tx n ≡ false) (map tx_of xs)
    → IsAscending (map tx_of xs) → IsAscending (map tx_of (inserted tx_of x xs))
ascending-inserted x [] apart ascending = (tt, tt)
ascending-inserted x (y ∷ ys) apart ascending =
    ascending_if x y ys (nat_lt x.tx y.tx) refl apart ascending (ascending-inserted x ys apart.1 ascending.1)

pub ascending-by_number : (xs : List Member) → IsDistinct nat_eq (map tx_of xs)
    → IsAscending (map tx_of (by_number tx_of xs))
unfolding IsDistinct
ascending-by_number [] distinct = tt
ascending-by_number (x ∷ xs) distinct =
    ascending-inserted x (by_number tx_of xs) (all-by_number (λ n. nat_eq x.tx n ≡ false) xs distinct.0)
    (ascending-by_number xs distinct.1)

fresh_numbers : (entrants : List Dormant) → map tx_of (map fresh entrants) ≡ map (λ (e : Dormant). e.tx) entrants
fresh_numbers [] = refl
fresh_numbers (e ∷ entrants) = ap (λ ns. e.tx ∷ ns) (fresh_numbers entrants)

fresh_length : (entrants : List Dormant) → length (map fresh entrants) ≡ length entrants
fresh_length [] = refl
fresh_length (e ∷ entrants) = ap suc (fresh_length entrants)

pub no_member : IsRun [] []
no_member = run_by_number [] [] (omega arith) tt

pub starts : (entrants : List Dormant) → length entrants ≤ 64
    → IsDistinct nat_eq (map (λ (e : Dormant). e.tx) entrants) → IsRun [] (by_number tx_of (map fresh entrants))
starts entrants bound distinct =
    run_by_number [] (by_number tx_of (map fresh entrants))
    (omega (arith, bound, length-by_number tx_of (map fresh entrants), fresh_length entrants))
    (ascending-by_number (map fresh entrants) (subst (IsDistinct nat_eq) (sym (fresh_numbers entrants)) distinct))
