-- Elements of lists, taken off one by one, and what a test of all of them says of each.
use Rattle.std.proofs.Common.{◌≡◌, ◌⊎◌, inl, inr, zero, suc, Bool, true, false, ◌||◌, List, [], ◌∷◌}
use Rattle.std.proofs.Common.{refl, sym, ap, arith, ◌∙◌}
use Rattle.std.specs.Prelude.{All, Contains, not}
use Rattle.std.specs.List.{list_all, list_any}
use Rattle.ent_lists.specs.Elements.{and_both, any_some, in_contains}
use Rattle.ent_lists.proofs.Contained.{contains_none}

pub first_or_later : {A : Type 0} (x z : A) (xs : List A) → Contains (x ∷ xs) z → (z ≡ x) ⊎ Contains xs z
first_or_later x z xs (zero, h, e) = inl (sym e)
first_or_later x z xs (suc k, h, e) = inr (k, omega arith, e)

pub first_there : {A : Type 0} (x : A) (xs : List A) → Contains (x ∷ xs) x
first_there x xs = (0, omega arith, refl)

pub later_there : {A : Type 0} (x z : A) (xs : List A) → Contains xs z → Contains (x ∷ xs) z
later_there x z xs h = (suc h.0, omega arith, h.2)

-- by whether it is the first
pub by_first : {A P : Type 0} (x z : A) (xs : List A) → (z ≡ x → P) → (Contains xs z → P) → Contains (x ∷ xs) z → P
by_first {P = P} x z xs first later there = of (first_or_later x z xs there)
  where
    of : (z ≡ x) ⊎ Contains xs z → P
    of (inl e) = first e
    of (inr h) = later h

pub each_passes : {A : Type 0} (p : A → Bool) (xs : List A) (x : A) → list_all p xs ≡ true → Contains xs x
    → p x ≡ true
each_passes p [] x h there = absurd (contains_none x there)
each_passes p (y ∷ ys) x h there =
    let parts = and_both (p y) (list_all p ys) h in
    by_first y x ys (λ e. ap p e ∙ parts.0) (λ later. each_passes p ys x parts.1 later) there

-- some element passes where a test of any of them does
pub one_passes : {A : Type 0} (p : A → Bool) (xs : List A) → list_any p xs ≡ true
    → (x : A) × Contains xs x × (p x ≡ true)
one_passes p xs h = let r = any_some p xs h in (r.0, in_contains xs r.0 r.1, r.2)

-- what holds of each element holds at each index
pub all_where : {A : Type 0} (P : A → Type 0) (xs : List A) → ((x : A) → Contains xs x → P x) → All P xs
all_where P [] h k d l = absurd (omega arith)
all_where P (x ∷ xs) h zero d l = h x (first_there x xs)
all_where P (x ∷ xs) h (suc k) d l = all_where P xs (λ y there. h y (later_there x y xs there)) k d (omega arith)

pub unless : (a b : Bool) → (not a || b) ≡ true → a ≡ true → b ≡ true
unless true b h e = h
unless false b h e = cc
