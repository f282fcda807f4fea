-- Members by number, and numbers that stand once.
use Rattle.std.proofs.Common.{◌≡◌, ◌≢◌, ◌≤◌, ◌<◌, ◌==◌, ◌||◌, ℕ, suc, Bool, true, false, cond, List, [], ◌∷◌}
use Rattle.std.proofs.Common.{map, refl, sym, ap, ◌∙◌, arith, nat_eq, nat_lt}
use Rattle.std.specs.Prelude.{All, AllPairs}
use Rattle.std.specs.List.{AllByRecursion, IsDistinct, filter, list_any}
use Rattle.std.proofs.lemmas.Bool.Decides.{nat_tests}
use Rattle.std.proofs.lemmas.List.Elements.{All-head, All-tail}
use Rattle.ent_lists.specs.Elements.{number_itself, other_number, same_number}
use Rattle.ent_lists.proofs.Lists.{pairs_head, pairs_tail}
use Rattle.ent_lists.proofs.Truth.{or_swap}
use Rattle.ent_members.specs.Order.{tx_of}
use Rattle.ent_protocol.specs.Rollback.{is_among}
use Rattle.ent_protocol.specs.State.{Member, by_number, inserted}
use Rattle.ent_protocol_laws.proofs.Times.{one_if, one_more, times}

-- ---- how often a number stands in a list

one_kept : (b : Bool) (j k : ℕ) → j ≤ k → one_if b j ≤ one_if b k
one_kept true j k le = omega (arith, le)
one_kept false j k le = le

turned : (m n : ℕ) → nat_eq m n ≡ false → nat_eq n m ≡ false
turned m n is = grind (arith, nat_tests)

never : (n : ℕ) (xs : List ℕ) → AllByRecursion (λ m. nat_eq n m ≡ false) xs → times n xs ≡ 0
never n [] all = refl
never n (x ∷ xs) all =
    ap (λ b. one_if b (times n xs)) (turned n x all.0) ∙ never n xs all.1

nowhere : (n : ℕ) (xs : List ℕ) → times n xs ≤ 0 → AllByRecursion (λ m. nat_eq n m ≡ false) xs
nowhere n [] none = tt
nowhere n (x ∷ xs) none = by (nat_eq x n) refl none (nowhere n xs)
  where
    by : (b : Bool) → nat_eq x n ≡ b → one_if b (times n xs) ≤ 0 → (times n xs ≤ 0
        → AllByRecursion (λ m. nat_eq n m ≡ false) xs)
        → AllByRecursion (λ m. nat_eq n m ≡ false) (x ∷ xs)
    by true is low rest = absurd (omega (arith, low))
    by false is low rest = (turned x n is, rest low)

-- numbers that are distinct stand once
pub once : (xs : List ℕ) → IsDistinct nat_eq xs → (n : ℕ) → times n xs ≤ 1
unfolding IsDistinct
once [] distinct n = omega arith
once (x ∷ xs) distinct n = by (nat_eq x n) refl (once xs distinct.1 n)
  where
    by : (b : Bool) → nat_eq x n ≡ b → times n xs ≤ 1 → one_if b (times n xs) ≤ 1
    by true is rest =
        let none : times x xs ≡ 0 = never x xs distinct.0 in
        let here : times n xs ≡ 0 = ap (λ m. times m xs) (sym (same_number x n is)) ∙ none in
        omega (arith, here)
    by false is rest = rest

pub distinct_if_once : (xs : List ℕ) → ((n : ℕ) → times n xs ≤ 1) → IsDistinct nat_eq xs
unfolding IsDistinct
distinct_if_once [] low = tt
distinct_if_once (x ∷ xs) low = (nowhere x xs (first (low x)), distinct_if_once xs (λ n. rest n (low n)))
  where
    first : one_if (nat_eq x x) (times x xs) ≤ 1 → times x xs ≤ 0
    first le =
        let e : one_if (nat_eq x x) (times x xs) ≡ suc (times x xs) =
        ap (λ b. one_if b (times x xs)) (number_itself x) in
        omega (arith, e, le)

    rest : (n : ℕ) → one_if (nat_eq x n) (times n xs) ≤ 1 → times n xs ≤ 1
    rest n le = let more = one_more (nat_eq x n) (times n xs) in omega (arith, le, more)

all_apart : (n : ℕ) (xs : List ℕ) → All (λ m. n ≢ m) xs → AllByRecursion (λ m. nat_eq n m ≡ false) xs
all_apart n [] all = tt
all_apart n (x ∷ xs) all =
    (other_number n x (All-head (λ m. n ≢ m) x xs all), all_apart n xs (All-tail (λ m. n ≢ m) x xs all))

pub distinct_if_apart : (xs : List ℕ) → AllPairs (λ (one other : ℕ). one ≢ other) xs → IsDistinct nat_eq xs
unfolding IsDistinct
distinct_if_apart [] all = tt
distinct_if_apart (x ∷ xs) all = (
  all_apart x xs (pairs_head (λ (one other : ℕ). one ≢ other) x xs all),
  distinct_if_apart xs (pairs_tail (λ (one other : ℕ). one ≢ other) x xs all),
)

-- ---- of members

pub times_filter : (n : ℕ) (p : Member → Bool) (ms : List Member)
    → times n (map tx_of (filter p ms)) ≤ times n (map tx_of ms)
times_filter n p [] = omega arith
times_filter n p (m ∷ ms) = by (p m) (times_filter n p ms)
  where
    by : (b : Bool) → times n (map tx_of (filter p ms)) ≤ times n (map tx_of ms)
        → times n (map tx_of (cond b (m ∷ filter p ms) (filter p ms))) ≤ one_if (nat_eq m.tx n) (times n (map tx_of ms))
    by true le = one_kept (nat_eq m.tx n) (times n (map tx_of (filter p ms))) (times n (map tx_of ms)) le
    by false le = let more = one_more (nat_eq m.tx n) (times n (map tx_of ms)) in omega (arith, le, more)

-- ---- put in by number

pub all_inserted : (P : Member → Type 0) (m : Member) (ms : List Member) → P m → AllByRecursion P ms
    → AllByRecursion P (inserted tx_of m ms)
all_inserted P m [] here all = (here, tt)
all_inserted P m (o ∷ os) here all = by (nat_lt m.tx o.tx) (all_inserted P m os here all.1)
  where
    by : (b : Bool) → AllByRecursion P (inserted tx_of m os)
        → AllByRecursion P (cond b (m ∷ o ∷ os) (o ∷ inserted tx_of m os))
    by true rest = (here, all)
    by false rest = (all.0, rest)

pub all_by_number : (P : Member → Type 0) (ms : List Member) → AllByRecursion P ms
    → AllByRecursion P (by_number tx_of ms)
all_by_number P [] all = tt
all_by_number P (m ∷ ms) all = all_inserted P m (by_number tx_of ms) all.0 (all_by_number P ms all.1)

any_inserted : (p : Member → Bool) (m : Member) (ms : List Member)
    → list_any p (inserted tx_of m ms) ≡ (p m || list_any p ms)
any_inserted p m [] = refl
any_inserted p m (o ∷ os) = by (nat_lt m.tx o.tx) (any_inserted p m os)
  where
    by : (b : Bool) → list_any p (inserted tx_of m os) ≡ (p m || list_any p os)
        → list_any p (cond b (m ∷ o ∷ os) (o ∷ inserted tx_of m os)) ≡ (p m || (p o || list_any p os))
    by true e = refl
    by false e = ap (λ b. p o || b) e ∙ or_swap (p o) (p m) (list_any p os)

any_by_number : (p : Member → Bool) (ms : List Member) → list_any p (by_number tx_of ms) ≡ list_any p ms
any_by_number p [] = refl
any_by_number p (m ∷ ms) = any_inserted p m (by_number tx_of ms) ∙ ap (λ b. p m || b) (any_by_number p ms)

pub among_by_number : (ms : List Member) (tx : ℕ) → is_among (by_number tx_of ms) tx ≡ is_among ms tx
among_by_number ms tx = any_by_number (λ member. member.tx == tx) ms

-- ---- members of distinct numbers that stand by number

abbrev IsAscending : List Member → Type 0
IsAscending [] = Unit {0}
IsAscending (m ∷ ms) = AllByRecursion (λ (o : Member). m.tx < o.tx) ms × IsAscending ms

further : (m o : Member) (os : List Member) → m.tx < o.tx → AllByRecursion (λ (x : Member). o.tx < x.tx) os
    → AllByRecursion (λ (x : Member). m.tx < x.tx) os
further m o [] lt all = tt
further m o (x ∷ os) lt all = (let h = all.0 in omega (arith, lt, h), further m o os lt all.1)

ascending_inserted : (m : Member) (ms : List Member) → AllByRecursion (λ (o : Member). nat_eq m.tx o.tx ≡ false) ms
    → IsAscending ms → IsAscending (inserted tx_of m ms)
ascending_inserted m [] apart asc = (tt, tt)
ascending_inserted m (o ∷ os) apart asc = by (nat_lt m.tx o.tx) refl (ascending_inserted m os apart.1 asc.1)
  where
    by : (b : Bool) → nat_lt m.tx o.tx ≡ b → IsAscending (inserted tx_of m os)
        → IsAscending (cond b (m ∷ o ∷ os) (o ∷ inserted tx_of m os))
    by true is rest =
        let lt : m.tx < o.tx = grind (arith, nat_tests) in
        ((lt, further m o os lt asc.0), asc)
    by false is rest =
        let other = apart.0 in
        let gt : o.tx < m.tx = grind (arith, nat_tests) in
        (all_inserted (λ (x : Member). o.tx < x.tx) m os gt asc.0, rest)

unmapped : (n : ℕ) (ms : List Member) → AllByRecursion (λ m. nat_eq n m ≡ false) (map tx_of ms)
    → AllByRecursion (λ (o : Member). nat_eq n o.tx ≡ false) ms
unmapped n [] all = tt
unmapped n (m ∷ ms) all = (all.0, unmapped n ms all.1)

ascending_by_number : (ms : List Member) → IsDistinct nat_eq (map tx_of ms) → IsAscending (by_number tx_of ms)
unfolding IsDistinct
ascending_by_number [] distinct = tt
ascending_by_number (m ∷ ms) distinct =
    ascending_inserted m (by_number tx_of ms)
    (all_by_number (λ (o : Member). nat_eq m.tx o.tx ≡ false) ms (unmapped m.tx ms distinct.0))
    (ascending_by_number ms distinct.1)

stays_first : (m : Member) (ms : List Member) → AllByRecursion (λ (o : Member). m.tx < o.tx) ms
    → inserted tx_of m ms ≡ m ∷ ms
stays_first m [] all = refl
stays_first m (o ∷ os) all =
    let lt = all.0 in
    let is : nat_lt m.tx o.tx ≡ true = grind (arith, nat_tests) in
    ap (λ b. cond b (m ∷ o ∷ os) (o ∷ inserted tx_of m os)) is

stays : (ms : List Member) → IsAscending ms → by_number tx_of ms ≡ ms
stays [] asc = refl
stays (m ∷ ms) asc = ap (inserted tx_of m) (stays ms asc.1) ∙ stays_first m ms asc.0

pub by_number_again : (ms : List Member) → IsDistinct nat_eq (map tx_of ms)
    → by_number tx_of (by_number tx_of ms) ≡ by_number tx_of ms
by_number_again ms distinct = stays (by_number tx_of ms) (ascending_by_number ms distinct)
