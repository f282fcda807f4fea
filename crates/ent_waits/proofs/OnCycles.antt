-- Pairs of who waits and for whom: which of them are there, and whom they name.
use Rattle.std.proofs.Common.{◌≡◌, ◌⊎◌, inl, inr, ℕ, zero, suc, Bool, true, false, if◌then◌else◌}
use Rattle.std.proofs.Common.{List, [], ◌∷◌, ◌++◌, map, refl, ap, arith}
use Rattle.std.specs.Prelude.{All, Contains, filter}
use Rattle.std.specs.List.{flat_map}
use Rattle.std.proofs.lemmas.List.Elements.{All-append, All-head, All-nil}
use Rattle.std.proofs.lemmas.List.Elements.{All-tail, All-weaker, Contains-append_cases, Contains-append_left}
use Rattle.std.proofs.lemmas.List.Elements.{Contains-append_right}
use Rattle.ent_group.specs.Cycle.{Closes, IsCycle, IsOnCycle, links}

module _ {X Y : Type 0} where
  -- ---- flat_map

  pub flat_map_within : (f g : X → List Y) → ((x : X) (y : Y) → Contains (f x) y → Contains (g x) y) → (xs : List X)
      (y : Y) → Contains (flat_map f xs) y → Contains (flat_map g xs) y
  flat_map_within f g within [] y h = h
  flat_map_within f g within (x ∷ xs) y h =
      by_cases (flat_map_within f g within xs y) (Contains-append_cases (f x) (flat_map f xs) y h)
    where
      by_cases : (Contains (flat_map f xs) y → Contains (flat_map g xs) y)
          → Contains (f x) y ⊎ Contains (flat_map f xs) y → Contains (g x ++ flat_map g xs) y
      by_cases rest (inl here) = Contains-append_left (g x) (flat_map g xs) y (within x y here)
      by_cases rest (inr later) = Contains-append_right (g x) (flat_map g xs) y (rest later)

  if_front : (p : X → Bool) (f : X → List Y) (x : X) (xs : List X) (b : Bool)
      → flat_map (λ z. if p z then f z else []) xs ≡ flat_map f (filter p xs)
      → (if b then f x else []) ++ flat_map (λ z. if p z then f z else []) xs
      ≡ flat_map f (if b then x ∷ filter p xs else filter p xs)
  if_front p f x xs true rest = ap (λ ys. f x ++ ys) rest
  if_front p f x xs false rest = rest

  -- what is made of those that pass
  pub flat_map_if : (p : X → Bool) (f : X → List Y) (xs : List X)
      → flat_map (λ x. if p x then f x else []) xs ≡ flat_map f (filter p xs)
  flat_map_if p f [] = refl
  flat_map_if p f (x ∷ xs) = if_front p f x xs (p x) (flat_map_if p f xs)

  pub all_of_flat_map : (P : Y → Type 0) (f : X → List Y) (xs : List X) → All (λ x. All P (f x)) xs
      → All P (flat_map f xs)
  all_of_flat_map P f [] all = All-nil P
  all_of_flat_map P f (x ∷ xs) all =
      All-append P (f x) (flat_map f xs) (All-head (λ z. All P (f z)) x xs all)
      (all_of_flat_map P f xs (All-tail (λ z. All P (f z)) x xs all))

  pub contains_map : (f : X → Y) (xs : List X) (x : X) → Contains xs x → Contains (map f xs) (f x)
  contains_map f [] x (k, within, is) = absurd (omega (arith, within))
  contains_map f (y ∷ xs) x (zero, within, is) = (0, omega arith, ap f is)
  contains_map f (y ∷ xs) x (suc k, within, is) =
      Contains-append_right (f y ∷ []) (map f xs) (f x) (contains_map f xs x (k, omega (arith, within), is))

-- ---- cycles

closes_within : (waits others : List (ℕ × ℕ)) → ((pair : ℕ × ℕ) → Contains waits pair → Contains others pair)
    → (members : List ℕ) → Closes waits members → Closes others members
closes_within waits others within members closes = record {
  not_empty = closes.not_empty;
  linked = All-weaker (Contains waits) (Contains others) within (links members) closes.linked;
}

-- a cycle is one among more pairs too, and so is a cycle
pub cycle_within : (waits others : List (ℕ × ℕ)) → ((pair : ℕ × ℕ) → Contains waits pair → Contains others pair)
    → (members : List ℕ) → IsCycle waits members → IsCycle others members
cycle_within waits others within members cycle = record {
  closes = closes_within waits others within members cycle.closes;
  distinct = cycle.distinct;
}

pub on_cycle_within : (waits others : List (ℕ × ℕ)) → ((pair : ℕ × ℕ) → Contains waits pair → Contains others pair)
    → (x : ℕ) → IsOnCycle waits x → IsOnCycle others x
on_cycle_within waits others within x found_cycle =
    (found_cycle.0, closes_within waits others within found_cycle.0 found_cycle.1, found_cycle.2)
