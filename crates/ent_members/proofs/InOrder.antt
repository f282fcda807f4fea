-- A list of members that is in order already.
use Rattle.std.proofs.Common.{ℕ, Bool, true, false, if◌then◌else◌, List, [], ◌∷◌, map, ◌≡◌, ◌<◌, nat_lt, length, refl}
use Rattle.std.proofs.Common.{sym, ap, subst, ◌∙◌, ◌++◌, append_assoc, arith}
use Rattle.std.specs.List.{filter, AllByRecursion}
use Rattle.std.specs.Prelude.{Option}
use Rattle.std.proofs.lemmas.Bool.Decides.{nat_tests}
use Rattle.ent_protocol.specs.State.{Member, inserted}
use Rattle.ent_members.specs.Order.{tx_of, IsAscending}
use Rattle.ent_members.specs.declared.run_attempts.RunAttempt.{RunAttempt}
use Rattle.ent_members.specs.RunAttempts.{gathered, is_within, run_attempt_of, run_attempts_in, number_of, numbers_in}
use Rattle.ent_members.proofs.ByNumber.{run_attempt_numbers}

all_filter_if : (P : ℕ → Type 0) (x : Member) (xs : List Member) (b : Bool) → P x.tx
    → AllByRecursion P (map tx_of xs) → AllByRecursion P (map tx_of (if b then x ∷ xs else xs))
all_filter_if P x xs true here rest = (here, rest)
all_filter_if P x xs false here rest = rest

pub all_filter : (P : ℕ → Type 0) (p : Member → Bool) (xs : List Member) → AllByRecursion P (map tx_of xs)
    → AllByRecursion P (map tx_of (filter p xs))
all_filter P p [] all = all
all_filter P p (x ∷ xs) all = all_filter_if P x (filter p xs) (p x) all.0 (all_filter P p xs all.1)

-- ---- those who leave

inserted_first : (x : RunAttempt) (ys : List RunAttempt) → AllByRecursion (λ n. x.tx < n) (numbers_in ys)
    → inserted number_of x ys ≡ x ∷ ys
inserted_first x [] all = refl
inserted_first x (y ∷ ys) all =
    ap (λ b. if b then x ∷ y ∷ ys else y ∷ inserted number_of x ys) (lt_is x.tx y.tx all.0)
  where
    lt_is : (n m : ℕ) → n < m → nat_lt n m ≡ true
    lt_is n m lt = grind (arith, nat_tests)

gathered_if : (group : Option ℕ) (x : Member) (xs : List Member) (b : Bool)
    → gathered group xs [] ≡ map run_attempt_of (filter (is_within group) xs)
    → AllByRecursion (λ n. x.tx < n) (map tx_of (filter (is_within group) xs))
    → (if b then inserted number_of (run_attempt_of x) (gathered group xs []) else gathered group xs [])
    ≡ map run_attempt_of (if b then x ∷ filter (is_within group) xs else filter (is_within group) xs)
gathered_if group x xs true rest above =
    ap (inserted number_of (run_attempt_of x)) rest
    ∙ inserted_first (run_attempt_of x) (map run_attempt_of (filter (is_within group) xs))
    (subst (AllByRecursion (λ n. x.tx < n)) (sym (run_attempt_numbers (filter (is_within group) xs))) above)
gathered_if group x xs false rest above = rest

pub gathered_in_order : (group : Option ℕ) (xs : List Member) → IsAscending (map tx_of xs)
    → run_attempts_in group xs ≡ map run_attempt_of (filter (is_within group) xs)
gathered_in_order group [] ascending = refl
gathered_in_order group (x ∷ xs) ascending =
    gathered_if group x xs (is_within group x) (gathered_in_order group xs ascending.1)
    (all_filter (λ n. x.tx < n) (is_within group) xs ascending.0)

pub none_left : (xs : List Member) → length xs ≡ 0 → [] ≡ xs
none_left [] is = refl
none_left (x ∷ xs) is = absurd (omega (arith, is))

-- one more of a list is told, or passed over
pub one_told : (group : Option ℕ) (x : Member) (xs : List Member) (told : List RunAttempt) → is_within group x ≡ true
    → (told ++ run_attempt_of x ∷ []) ++ map run_attempt_of (filter (is_within group) xs)
    ≡ told ++ map run_attempt_of (filter (is_within group) (x ∷ xs))
one_told group x xs told within =
    append_assoc told (run_attempt_of x ∷ []) (map run_attempt_of (filter (is_within group) xs))
    ∙ ap (λ b. told
    ++ map run_attempt_of (if b then x ∷ filter (is_within group) xs else filter (is_within group) xs)) (sym within)

pub one_passed : (group : Option ℕ) (x : Member) (xs : List Member) (told : List RunAttempt)
    → is_within group x ≡ false
    → told ++ map run_attempt_of (filter (is_within group) xs)
    ≡ told ++ map run_attempt_of (filter (is_within group) (x ∷ xs))
one_passed group x xs told other =
    ap (λ b. told
    ++ map run_attempt_of (if b then x ∷ filter (is_within group) xs else filter (is_within group) xs)) (sym other)
