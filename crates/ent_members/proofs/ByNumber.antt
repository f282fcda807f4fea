-- Lists that are put in order by number, and those who leave.
use Rattle.std.proofs.Common.{◌≡◌, ℕ, suc, ◌≤◌, Bool, true, false, nat_lt, if◌then◌else◌, List, [], ◌∷◌, ◌++◌, length}
use Rattle.std.proofs.Common.{map, insert, refl, sym, ap, ◌∙◌, arith}
use Rattle.std.specs.Prelude.{IfSome, IsNone, Option, Some, None}
use Rattle.std.specs.List.{filter}
use Rattle.ent_protocol.specs.Member.{is_of}
use Rattle.ent_protocol.specs.State.{Member, inserted, by_number}
use Rattle.ent_members.specs.declared.run_attempts.RunAttempt.{RunAttempt}
use Rattle.ent_members.specs.RunAttempts.{run_attempt_of, number_of, numbers_in, is_within, gathered, run_attempts_in}
use Rattle.ent_members.specs.Order.{place_in, tx_of}

place_if : (n m : ℕ) (b : Bool) → n ≤ m → (if b then 0 else suc n) ≤ suc m
place_if n m true le = omega arith
place_if n m false le = omega (arith, le)

module _ {A : Type 0} where
  -- ---- putting one in

  inserted_if : (number : A → ℕ) (x y : A) (ys : List A) (b : Bool)
      → inserted number x ys ≡ insert ys (place_in number ys (number x)) x
      → (if b then x ∷ y ∷ ys else y ∷ inserted number x ys)
      ≡ insert (y ∷ ys) (if b then 0 else suc (place_in number ys (number x))) x
  inserted_if number x y ys true rest = refl
  inserted_if number x y ys false rest = ap (λ zs. y ∷ zs) rest

  pub inserted_at : (number : A → ℕ) (x : A) (xs : List A)
      → inserted number x xs ≡ insert xs (place_in number xs (number x)) x
  inserted_at number x [] = refl
  inserted_at number x (y ∷ ys) =
      inserted_if number x y ys (nat_lt (number x) (number y)) (inserted_at number x ys)

  pub place_bound : (number : A → ℕ) (xs : List A) (n : ℕ) → place_in number xs n ≤ length xs
  place_bound number [] n = omega arith
  place_bound number (x ∷ xs) n =
      place_if (place_in number xs n) (length xs) (nat_lt n (number x)) (place_bound number xs n)

  longer_if : (number : A → ℕ) (x y : A) (ys : List A) (b : Bool) → length (inserted number x ys) ≡ suc (length ys)
      → length (if b then x ∷ y ∷ ys else y ∷ inserted number x ys) ≡ suc (suc (length ys))
  longer_if number x y ys true rest = refl
  longer_if number x y ys false rest = ap suc rest

  pub length-inserted : (number : A → ℕ) (x : A) (xs : List A) → length (inserted number x xs) ≡ suc (length xs)
  length-inserted number x [] = refl
  length-inserted number x (y ∷ ys) =
      longer_if number x y ys (nat_lt (number x) (number y)) (length-inserted number x ys)

  pub length-by_number : (number : A → ℕ) (xs : List A) → length (by_number number xs) ≡ length xs
  length-by_number number [] = refl
  length-by_number number (x ∷ xs) =
      length-inserted number x (by_number number xs) ∙ ap suc (length-by_number number xs)

-- ---- those who leave

run_attempt_if : (x y : Member) (ys : List Member) (b : Bool)
    → map run_attempt_of (inserted tx_of x ys) ≡ inserted number_of (run_attempt_of x) (map run_attempt_of ys)
    → map run_attempt_of (if b then x ∷ y ∷ ys else y ∷ inserted tx_of x ys)
    ≡ (if b then run_attempt_of x ∷ run_attempt_of y ∷ map run_attempt_of ys
    else run_attempt_of y ∷ inserted number_of (run_attempt_of x) (map run_attempt_of ys))
run_attempt_if x y ys true rest = refl
run_attempt_if x y ys false rest = ap (λ ls. run_attempt_of y ∷ ls) rest

run_attempts-inserted : (x : Member) (xs : List Member)
    → map run_attempt_of (inserted tx_of x xs) ≡ inserted number_of (run_attempt_of x) (map run_attempt_of xs)
run_attempts-inserted x [] = refl
run_attempts-inserted x (y ∷ ys) = run_attempt_if x y ys (nat_lt x.tx y.tx) (run_attempts-inserted x ys)

within_if : (group : Option ℕ) (x : Member) (xs : List Member) (b : Bool)
    → gathered group xs [] ≡ map run_attempt_of (by_number tx_of (filter (is_within group) xs))
    → (if b then inserted number_of (run_attempt_of x) (gathered group xs []) else gathered group xs [])
    ≡ map run_attempt_of (by_number tx_of (if b then x ∷ filter (is_within group) xs else filter (is_within group) xs))
within_if group x xs true rest =
    ap (inserted number_of (run_attempt_of x)) rest
    ∙ sym (run_attempts-inserted x (by_number tx_of (filter (is_within group) xs)))
within_if group x xs false rest = rest

pub run_attempts_are : (group : Option ℕ) (xs : List Member)
    → run_attempts_in group xs ≡ map run_attempt_of (by_number tx_of (filter (is_within group) xs))
run_attempts_are group [] = refl
run_attempts_are group (x ∷ xs) = within_if group x xs (is_within group x) (run_attempts_are group xs)

all_within : (xs : List Member) → filter (is_within None) xs ≡ xs
all_within [] = refl
all_within (x ∷ xs) = ap (λ ys. x ∷ ys) (all_within xs)

pub group_run_attempts : (group : ℕ) (xs : List Member)
    → run_attempts_in (Some group) xs ≡ map run_attempt_of (by_number tx_of (filter (is_of group) xs))
group_run_attempts group xs = run_attempts_are (Some group) xs

pub every_run_attempt : (xs : List Member) → run_attempts_in None xs ≡ map run_attempt_of (by_number tx_of xs)
every_run_attempt xs = run_attempts_are None xs ∙ ap (λ ys. map run_attempt_of (by_number tx_of ys)) (all_within xs)

pub group_left : (group : Option ℕ) (xs : List Member) (left : List RunAttempt) → left ≡ run_attempts_in group xs
    → IfSome group (λ label. left ≡ map run_attempt_of (by_number tx_of (filter (is_of label) xs)))
group_left None xs left is = tt
group_left (Some label) xs left is = is ∙ group_run_attempts label xs

pub all_left : (group : Option ℕ) (xs : List Member) (left : List RunAttempt) → left ≡ run_attempts_in group xs
    → IsNone group → left ≡ map run_attempt_of (by_number tx_of xs)
all_left None xs left is none = is ∙ every_run_attempt xs
all_left (Some label) xs left is none = cc

pub run_attempt_numbers : (xs : List Member) → numbers_in (map run_attempt_of xs) ≡ map tx_of xs
run_attempt_numbers [] = refl
run_attempt_numbers (x ∷ xs) = ap (λ ns. x.tx ∷ ns) (run_attempt_numbers xs)

append_if : (group : Option ℕ) (x : Member) (xs ys : List Member) (run_attempts : List RunAttempt) (b : Bool)
    → gathered group (xs ++ ys) run_attempts ≡ gathered group xs (gathered group ys run_attempts)
    → (if b then inserted number_of (run_attempt_of x) (gathered group (xs ++ ys) run_attempts)
    else gathered group (xs ++ ys) run_attempts)
    ≡ (if b then inserted number_of (run_attempt_of x) (gathered group xs (gathered group ys run_attempts))
    else gathered group xs (gathered group ys run_attempts))
append_if group x xs ys run_attempts true rest = ap (inserted number_of (run_attempt_of x)) rest
append_if group x xs ys run_attempts false rest = rest

pub gathered-append : (group : Option ℕ) (xs ys : List Member) (run_attempts : List RunAttempt)
    → gathered group (xs ++ ys) run_attempts ≡ gathered group xs (gathered group ys run_attempts)
gathered-append group [] ys run_attempts = refl
gathered-append group (x ∷ xs) ys run_attempts =
    append_if group x xs ys run_attempts (is_within group x) (gathered-append group xs ys run_attempts)
