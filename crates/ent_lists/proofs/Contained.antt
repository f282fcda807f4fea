-- What lists contain.
use Rattle.std.proofs.Common.{◌≡◌, ◌⊎◌, inl, inr, zero, suc, Bool, true, List, [], ◌∷◌, map, arith}
use Rattle.std.specs.Prelude.{Contains}
use Rattle.std.specs.List.{filter}
use Rattle.ent_lists.specs.Elements.{contains_in, in_contains, of_filter, of_map, to_filter, to_map}

pub contains_none : {A : Type 0} (z : A) → Contains [] z → ⊥
contains_none z (k, below, is) = omega arith

pub contains_first : {X : Type 0} (y : X) (ys : List X) (x : X) → y ≡ x → Contains (y ∷ ys) x
contains_first y ys x is = (0, omega arith, is)

pub contains_later : {X : Type 0} (y : X) (ys : List X) (x : X) → Contains ys x → Contains (y ∷ ys) x
contains_later y ys x (k, below, is) = (suc k, omega arith, is)

pub contains_cases : {X : Type 0} (y : X) (ys : List X) (x : X) → Contains (y ∷ ys) x → (y ≡ x) ⊎ Contains ys x
contains_cases y ys x (zero, below, is) = inl is
contains_cases y ys x (suc k, below, is) = inr (k, omega arith, is)

-- ---- images

pub of_mapped : {X Y : Type 0} (f : X → Y) (xs : List X) (y : Y) → Contains (map f xs) y
    → (x : X) × Contains xs x × (y ≡ f x)
of_mapped f xs y there = let r = of_map f xs y (contains_in (map f xs) y there) in (r.0, in_contains xs r.0 r.1, r.2)

pub to_mapped : {X Y : Type 0} (f : X → Y) (xs : List X) (x : X) → Contains xs x → Contains (map f xs) (f x)
to_mapped f xs x there = in_contains (map f xs) (f x) (to_map f xs x (contains_in xs x there))

-- ---- those that pass a test

pub of_filtered : {A : Type 0} (p : A → Bool) (xs : List A) (x : A) → Contains (filter p xs) x
    → Contains xs x × (p x ≡ true)
of_filtered p xs x there =
    let r = of_filter p xs x (contains_in (filter p xs) x there) in (in_contains xs x r.0, r.1)

pub to_filtered : {A : Type 0} (p : A → Bool) (xs : List A) (x : A) → Contains xs x → p x ≡ true
    → Contains (filter p xs) x
to_filtered p xs x there passes = in_contains (filter p xs) x (to_filter p xs x (contains_in xs x there) passes)
