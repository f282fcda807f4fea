-- Members of different numbers.
use Rattle.std.proofs.Common.{◌≡◌, inl, inr, ℕ, suc, ◌<◌, Bool, true, false, nat_eq, if◌then◌else◌, List, [], ◌∷◌, ◌++◌}
use Rattle.std.proofs.Common.{map, refl, sym, subst, arith}
use Rattle.std.specs.Prelude.{Contains, filter, AllPairs}
use Rattle.std.specs.List.{IsDistinct, AllByRecursion}
use Rattle.std.specs.List.Sorted.{IsStrictlyIncreasing}
use Rattle.std.proofs.lemmas.List.Kept.{AllPairs-from_increasing}
use Rattle.ent_lists.specs.Elements.{all_index, other_number}
use Rattle.ent_protocol.specs.State.{Member}
use Rattle.ent_members.specs.Order.{IsAscending, tx_of}
use Rattle.ent_members.proofs.InOrder.{all_filter}
use Rattle.ent_run.proofs.Lists.{contains_none, contains_cases, contains_first, contains_later}

-- a number that none of them has other_number from each
pub all_differ : (n : ℕ) (xs : List Member) → (Contains (map tx_of xs) n → ⊥)
    → AllByRecursion (λ k. nat_eq n k ≡ false) (map tx_of xs)
all_differ n [] apart = tt
all_differ n (x ∷ xs) apart = (
  other_number n x.tx (λ same. apart
      (subst (Contains (x.tx ∷ map tx_of xs)) (sym same) (contains_first x.tx (map tx_of xs)))),
  all_differ n xs (λ there. apart (contains_later x.tx n (map tx_of xs) there)),
)

all_append : (P : ℕ → Type 0) (xs ys : List Member) → AllByRecursion P (map tx_of xs) → AllByRecursion P (map tx_of ys)
    → AllByRecursion P (map tx_of (xs ++ ys))
all_append P [] ys first second = second
all_append P (x ∷ xs) ys first second = (first.0, all_append P xs ys first.1 second)

-- two lists of which no number stands in both
pub distinct_append : (xs ys : List Member) → IsDistinct nat_eq (map tx_of xs) → IsDistinct nat_eq (map tx_of ys)
    → ((tx : ℕ) → Contains (map tx_of xs) tx → Contains (map tx_of ys) tx → ⊥)
    → IsDistinct nat_eq (map tx_of (xs ++ ys))
unfolding IsDistinct
distinct_append [] ys first second apart = second
distinct_append (x ∷ xs) ys first second apart = (
  all_append (λ k. nat_eq x.tx k ≡ false) xs ys first.0
      (all_differ x.tx ys (apart x.tx (contains_first x.tx (map tx_of xs)))),
  distinct_append xs ys first.1 second (λ tx there. apart tx (contains_later x.tx tx (map tx_of xs) there)),
)

distinct_if : (x : Member) (xs : List Member) (b : Bool) → AllByRecursion (λ k. nat_eq x.tx k ≡ false) (map tx_of xs)
    → IsDistinct nat_eq (map tx_of xs) → IsDistinct nat_eq (map tx_of (if b then x ∷ xs else xs))
unfolding IsDistinct
distinct_if x xs true apart rest = (apart, rest)
distinct_if x xs false apart rest = rest

pub distinct_filter : (p : Member → Bool) (xs : List Member) → IsDistinct nat_eq (map tx_of xs)
    → IsDistinct nat_eq (map tx_of (filter p xs))
unfolding IsDistinct
distinct_filter p [] distinct = tt
distinct_filter p (x ∷ xs) distinct =
    distinct_if x (filter p xs) (p x) (all_filter (λ k. nat_eq x.tx k ≡ false) p xs distinct.0)
    (distinct_filter p xs distinct.1)

-- ---- numbers that rise

ascending_pairs : (ns : List ℕ) → AllPairs (λ n m. n < m) ns → IsAscending ns
ascending_pairs [] pairs = tt
ascending_pairs (n ∷ ns) pairs = (
  all_index (λ m. n < m) ns (λ k d within. pairs 0 (suc k) d (omega arith) (omega (arith, within))),
  ascending_pairs ns (λ i j d below within. pairs (suc i) (suc j) d (omega (arith, below)) (omega (arith, within))),
)

pub ascending_of : (ns : List ℕ) → IsStrictlyIncreasing ns → IsAscending ns
ascending_of ns rising = ascending_pairs ns (AllPairs-from_increasing ns rising)

pub one_above : (P : ℕ → Type 0) (ns : List ℕ) (m : ℕ) → AllByRecursion P ns → Contains ns m → P m
one_above P [] m all there = absurd (contains_none m there)
one_above P (n ∷ ns) m all there = elim (contains_cases n m ns there) [
  | inl same ↦ subst P same all.0
  | inr later ↦ one_above P ns m all.1 later
]

-- the first of two lists of the same numbers
same_first : (n m : ℕ) (ns ms : List ℕ) → AllByRecursion (λ k. n < k) ns → AllByRecursion (λ k. m < k) ms
    → Contains (m ∷ ms) n → Contains (n ∷ ns) m → n ≡ m
same_first n m ns ms above over there back = elim (contains_cases m n ms there) [
  | inl same ↦ sym same
  | inr later ↦ elim (contains_cases n m ns back) [
    | inl same ↦ same
    | inr other ↦
        let first : m < n = one_above (λ k. m < k) ms n over later in
        let second : n < m = one_above (λ k. n < k) ns m above other in
        absurd (omega (arith, first, second))
  ]
]

later_ones : (n : ℕ) (ns ms : List ℕ) → AllByRecursion (λ k. n < k) ns
    → ((k : ℕ) → Contains (n ∷ ns) k → Contains (n ∷ ms) k) → (k : ℕ) → Contains ns k → Contains ms k
later_ones n ns ms above into k there = elim (contains_cases n k ms (into k (contains_later n k ns there))) [
  | inl same ↦
      let more : n < k = one_above (λ m. n < m) ns k above there in
      absurd (omega (arith, more, same))
  | inr later ↦ later
]

-- numbers that rise are told by what they contain
pub same_ascending : (ns ms : List ℕ) → IsAscending ns → IsAscending ms
    → ((k : ℕ) → Contains ns k → Contains ms k) → ((k : ℕ) → Contains ms k → Contains ns k) → ns ≡ ms
same_ascending [] [] first second into back = refl
same_ascending [] (m ∷ ms) first second into back = absurd (contains_none m (back m (contains_first m ms)))
same_ascending (n ∷ ns) [] first second into back = absurd (contains_none n (into n (contains_first n ns)))
same_ascending (n ∷ ns) (m ∷ ms) first second into back =
    let same : n ≡ m = same_first n m ns ms first.0 second.0 (into n (contains_first n ns))
    (back m (contains_first m ms)) in
    let over : AllByRecursion (λ k. n < k) ms = subst (λ l. AllByRecursion (λ k. l < k) ms) (sym same) second.0 in
    let into_same : (k : ℕ) → Contains (n ∷ ns) k → Contains (n ∷ ms) k =
    λ k there. subst (λ l. Contains (l ∷ ms) k) (sym same) (into k there) in
    let back_same : (k : ℕ) → Contains (n ∷ ms) k → Contains (n ∷ ns) k =
    λ k there. back k (subst (λ l. Contains (l ∷ ms) k) same there) in
    λ i. same i ∷ same_ascending ns ms first.1 second.1 (later_ones n ns ms first.0 into_same)
    (later_ones n ms ns over back_same) i
