-- A statement put in by number.
use Rattle.std.proofs.Common.{◌≡◌, ◌≢◌, ◌⊎◌, ℕ, zero, suc, ◌<◌, ◌≤◌, List, [], ◌∷◌, length, get_or, refl, sym, ap}
use Rattle.std.proofs.Common.{subst, arith, inl, inr, All, Bool, filter}
use Rattle.std.specs.Prelude.{Contains, Result, Ok, Err, OnOk, OnErr}
use Rattle.std.specs.List.{insert, remove}
use Rattle.std.proofs.lemmas.Bool.{cases_lt}
use Rattle.std.proofs.lemmas.List.{get_or_default}
use Rattle.std.proofs.lemmas.List.Elements.{All-nil, All-cons, All-head, All-tail, All-contains, All-filter}
use Rattle.std.proofs.lemmas.List.Elements.{All-contains_itself}
use Rattle.std.proofs.lemmas.List.Kept.{AllPairs-cons, AllPairs-filter}
use Rattle.ent_lists.proofs.Contained.{contains_cases, contains_later, contains_first}
use Rattle.ent_semantics.specs.Pool.{Posted, IsSafe, IsUnsafeAt, IsFirstUnsafe, HasHeadFor, Unsafe}
use Rattle.ent_match.specs.Fault.{IsByNumber, IsSafeBut}
use Rattle.ent_match.specs.Posting.{HasNone, Adds, IsPlaceFor}

pub remove-insert : {X : Type 0} (xs : List X) (i : ℕ) (x : X) → i ≤ length xs → remove (insert xs i x) i ≡ xs
remove-insert [] zero x h = refl
remove-insert (y ∷ xs) zero x h = refl
remove-insert [] (suc i) x h = absurd (omega arith)
remove-insert (y ∷ xs) (suc i) x h = ap (λ ys. y ∷ ys) (remove-insert xs i x (omega arith))

pub at-insert : {X : Type 0} (xs : List X) (i : ℕ) (x d : X) → i ≤ length xs → get_or (insert xs i x) i d ≡ x
at-insert [] zero x d h = refl
at-insert (y ∷ xs) zero x d h = refl
at-insert [] (suc i) x d h = absurd (omega arith)
at-insert (y ∷ xs) (suc i) x d h = at-insert xs i x d (omega arith)

from_insert : (xs : List Posted) (i : ℕ) (m x : Posted) → i ≤ length xs → Contains (insert xs i m) x
    → Contains xs x ⊎ (m ≡ x)
from_insert [] zero m x h inside = elim (contains_cases m [] x inside) [ inl is ↦ inr is | inr later ↦ inl later ]
from_insert (y ∷ xs) zero m x h inside =
    elim (contains_cases m (y ∷ xs) x inside) [ inl is ↦ inr is | inr later ↦ inl later ]
from_insert [] (suc i) m x h inside = absurd (omega arith)
from_insert (y ∷ xs) (suc i) m x h inside =
    elim (contains_cases y (insert xs i m) x inside) [
      | inl is ↦ inl (contains_first y xs x is)
      | inr later ↦ elim (from_insert xs i m x (omega arith) later) [
        | inl old ↦ inl (contains_later y xs x old)
        | inr new ↦ inr new
      ]
    ]

to_insert : (xs : List Posted) (i : ℕ) (m x : Posted) → i ≤ length xs → Contains xs x → Contains (insert xs i m) x
to_insert [] zero m x h inside = contains_later m [] x inside
to_insert (y ∷ xs) zero m x h inside = contains_later m (y ∷ xs) x inside
to_insert [] (suc i) m x h inside = absurd (omega arith)
to_insert (y ∷ xs) (suc i) m x h inside =
    elim (contains_cases y xs x inside) [
      | inl is ↦ contains_first y (insert xs i m) x is
      | inr later ↦ contains_later y (insert xs i m) x (to_insert xs i m x (omega arith) later)
    ]

new_insert : (xs : List Posted) (i : ℕ) (m : Posted) → i ≤ length xs → Contains (insert xs i m) m
new_insert [] zero m h = contains_first m [] m refl
new_insert (y ∷ xs) zero m h = contains_first m (y ∷ xs) m refl
new_insert [] (suc i) m h = absurd (omega arith)
new_insert (y ∷ xs) (suc i) m h = contains_later y (insert xs i m) m (new_insert xs i m (omega arith))

pub adds-insert : (xs : List Posted) (i : ℕ) (m : Posted) → i ≤ length xs → Adds xs (insert xs i m) m
adds-insert xs i m h x = (
  (λ inside. from_insert xs i m x h inside),
  (λ e. elim e [
    | inl old ↦ to_insert xs i m x h old
    | inr new ↦
        subst (λ z. Contains (insert xs i m) z) new (new_insert xs i m h)
  ]),
)

-- ---- by number

All-insert : (P : Posted → Type 0) (xs : List Posted) (i : ℕ) (m : Posted) → All P xs → P m → All P (insert xs i m)
All-insert P [] zero m all here = All-cons P m [] here all
All-insert P [] (suc i) m all here = All-cons P m [] here all
All-insert P (y ∷ xs) zero m all here = All-cons P m (y ∷ xs) here all
All-insert P (y ∷ xs) (suc i) m all here =
    All-cons P y (insert xs i m) (All-head P y xs all) (All-insert P xs i m (All-tail P y xs all) here)

insert_ordered : (xs : List Posted) (i : ℕ) (m : Posted) → IsByNumber xs
    → ((k : ℕ) (d : Posted) → k < i → k < length xs → (get_or xs k d).tx < m.tx)
    → ((k : ℕ) (d : Posted) → i ≤ k → k < length xs → m.tx < (get_or xs k d).tx) → IsByNumber (insert xs i m)
insert_ordered [] zero m ordered low high =
    AllPairs-cons (λ (a b : Posted). a.tx < b.tx) m [] (All-nil (λ b. m.tx < b.tx)) ordered
insert_ordered [] (suc i) m ordered low high =
    AllPairs-cons (λ (a b : Posted). a.tx < b.tx) m [] (All-nil (λ b. m.tx < b.tx)) ordered
insert_ordered (y ∷ xs) zero m ordered low high =
    AllPairs-cons (λ (a b : Posted). a.tx < b.tx) m (y ∷ xs) (λ k d below. high k d (omega arith) below) ordered
insert_ordered (y ∷ xs) (suc i) m ordered low high =
    AllPairs-cons (λ (a b : Posted). a.tx < b.tx) y (insert xs i m)
    (All-insert (λ b. y.tx < b.tx) xs i m (λ k d below. ordered 0 (suc k) d (omega arith) (omega arith))
    (low 0 y (omega arith) (omega arith)))
    (insert_ordered xs i m (λ a b d less within. ordered (suc a) (suc b) d (omega arith) (omega arith))
    (λ k d less below. low (suc k) d (omega arith) (omega arith))
    (λ k d from below. high (suc k) d (omega arith) (omega arith)))

pub by_number-insert : (xs : List Posted) (i : ℕ) (m : Posted) → IsByNumber xs → HasNone xs m → IsPlaceFor xs m i
    → IsByNumber (insert xs i m)
by_number-insert xs i m ordered none place =
    insert_ordered xs i m ordered
    (λ k d less below.
    let le = place.before k d less in
    let other : (get_or xs k d).tx ≢ m.tx = none (get_or xs k d) (k, below, get_or_default xs k _ d below) in
    omega arith)
    (λ k d from below. elim (cases_lt i k) [
      | inl less ↦ (let here = place.here d (omega arith) in let after = ordered i k d less below in omega arith)
      | inr not_less ↦
          let same : i ≡ k = omega arith in
          subst (λ j. m.tx < (get_or xs j d).tx) same (place.here d (omega arith))
    ])

-- ---- the pool with a statement

-- all but the new statement are as safe as before
pub safe_but : (old new : List Posted) (m : Posted) → Adds old new m → IsSafe old → IsSafeBut new m
safe_but old new m adds safe asker first second index asks one two other other_one other_two =
    safe asker first second index (is_old asker asks other) (is_old first one other_one) (is_old second two other_two)
  where
    is_old : (x : Posted) → Contains new x → x.tx ≢ m.tx → Contains old x
    is_old x inside differs =
        elim ((adds x).0 inside) [ inl here ↦ here | inr is ↦ absurd (differs (sym (ap (λ z. z.tx) is))) ]

has_head : (xs ys : List Posted) → ((x : Posted) → Contains xs x → Contains ys x) → (tx index owner : ℕ)
    → HasHeadFor xs tx index owner → HasHeadFor ys tx index owner
has_head xs ys into tx index owner h =
    record {
      asker = h.asker;
      asks = into h.asker h.asks;
      asker_is = h.asker_is;
      partner = h.partner;
      offers =
          into h.partner h.offers;
      partner_is = h.partner_is;
      meets = h.meets;
    }

unsafe_in : (xs ys : List Posted) → ((x : Posted) → Contains xs x → Contains ys x) → (u : Unsafe) → IsUnsafeAt xs u
    → IsUnsafeAt ys u
unsafe_in xs ys into u (less, one, two) =
    (less, has_head xs ys into u.asker u.index u.first one, has_head xs ys into u.asker u.index u.second two)

-- the pool with the statement in front is the same pool
into_front : (old new : List Posted) (m : Posted) → Adds old new m → (x : Posted) → Contains new x
    → Contains (m ∷ old) x
into_front old new m adds x inside =
    elim ((adds x).0 inside) [ inl here ↦ contains_later m old x here | inr is ↦ contains_first m old x is ]

from_front : (old new : List Posted) (m : Posted) → Adds old new m → (x : Posted) → Contains (m ∷ old) x
    → Contains new x
from_front old new m adds x inside =
    (adds x).1 (elim (contains_cases m old x inside) [ inl is ↦ inr is | inr here ↦ inl here ])

pub why_front : (old new : List Posted) (m : Posted) (u : Unsafe) → Adds old new m → (IsSafe new → ⊥)
    → IsFirstUnsafe new u
    → (IsSafe (m ∷ old) → ⊥) × IsFirstUnsafe (m ∷ old) u
why_front old new m u adds not (at, least) =
    let into = into_front old new m adds in
    let from = from_front old new m adds in (
      (λ safe. not (λ asker first second index asks one two. safe asker first second index (into asker asks)
          (into first one) (into second two))),
      (unsafe_in new (m ∷ old) into u at, λ other h. least other (unsafe_in (m ∷ old) new from other h)),
    )

-- ---- the pool without a statement

from_filter : (p : Posted → Bool) (xs : List Posted) (x : Posted) → Contains (filter p xs) x → Contains xs x
from_filter p xs x inside =
    All-contains (Contains xs) (filter p xs) x (All-filter p (Contains xs) xs (All-contains_itself xs)) inside

-- some of the statements are as safe as all, and by number
pub kept_state : (p : Posted → Bool) (xs : List Posted) → IsByNumber xs × IsSafe xs
    → IsByNumber (filter p xs) × IsSafe (filter p xs)
kept_state p xs (ordered, safe) = (
  AllPairs-filter (λ (a b : Posted). a.tx < b.tx) p xs ordered,
  (λ asker first second index asks one two.
      safe asker first second index (from_filter p xs asker asks) (from_filter p xs first one)
      (from_filter p xs second two)),
)

pub either_way : {A B P Q X : Type 0} (r : Result A B) → OnOk r P → OnErr r Q → (P → X) → (Q → X) → X
either_way (Ok x) ok err one other = one ok
either_way (Err e) ok err one other = other err
