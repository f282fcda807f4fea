-- Members by number.
use Rattle.std.proofs.Common.{◌≡◌, ℕ, ◌+◌, ◌<◌, ◌≤◌, Bool, true, false, nat_eq, if◌then◌else◌, List, [], ◌∷◌, length}
use Rattle.std.proofs.Common.{map}
use Rattle.std.specs.List.{filter, IsDistinct, AllByRecursion}
use Rattle.ent_lists.proofs.Numbers.{eq_below}
use Rattle.ent_protocol.specs.State.{Member}
use Rattle.ent_members.specs.Order.{IsAscending, tx_of}
use Rattle.ent_members.proofs.InOrder.{all_filter}
use Rattle.ent_run.specs.Run.{IsRun}

all_apart : (n : ℕ) (ns : List ℕ) → AllByRecursion (λ m. n < m) ns → AllByRecursion (λ m. nat_eq n m ≡ false) ns
all_apart n [] all = tt
all_apart n (m ∷ ms) all = (eq_below n m all.0, all_apart n ms all.1)

distinct_numbers : (ns : List ℕ) → IsAscending ns → IsDistinct nat_eq ns
unfolding IsDistinct
distinct_numbers [] ascending = tt
distinct_numbers (n ∷ ns) ascending = (all_apart n ns ascending.0, distinct_numbers ns ascending.1)

pub run_by_number : (prepared active : List Member) → length prepared + length active ≤ 64
    → IsAscending (map tx_of active) → IsRun prepared active
run_by_number prepared active bound ascending =
    record { bound = bound; ascending = ascending; distinct = distinct_numbers (map tx_of active) ascending }

ascending_if : (x : Member) (xs : List Member) (b : Bool) → AllByRecursion (λ n. x.tx < n) (map tx_of xs)
    → IsAscending (map tx_of xs) → IsAscending (map tx_of (if b then x ∷ xs else xs))
ascending_if x xs true above rest = (above, rest)
ascending_if x xs false above rest = rest

pub ascending_filter : (p : Member → Bool) (xs : List Member) → IsAscending (map tx_of xs)
    → IsAscending (map tx_of (filter p xs))
ascending_filter p [] ascending = ascending
ascending_filter p (x ∷ xs) ascending =
    ascending_if x (filter p xs) (p x) (all_filter (λ n. x.tx < n) p xs ascending.0)
    (ascending_filter p xs ascending.1)
