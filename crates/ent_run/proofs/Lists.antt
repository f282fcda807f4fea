-- What lists contain.
use Rattle.std.proofs.Common.{◌≡◌, ◌⊎◌, inl, inr, ℕ, zero, suc, ◌<◌, Bool, true, false, ◌||◌}
use Rattle.std.proofs.Common.{if◌then◌else◌, List, [], ◌∷◌, ◌++◌, length, map, get_or, refl, sym, ap, subst, ◌∙◌}
use Rattle.std.proofs.Common.{◌==◌, arith, true≢false}
use Rattle.std.specs.Prelude.{Contains, filter}
use Rattle.std.specs.List.{flat_map, list_any}
use Rattle.std.proofs.lemmas.List.Elements.{Contains-append_left, Contains-append_right, Contains-append_cases}
use Rattle.ent_lists.specs.Elements.{number_itself, same_number}

module _ {X : Type 0} where
  pub contains_none : (x : X) → Contains [] x → ⊥
  contains_none x h = let lt = h.1 in omega (arith, lt)

  pub contains_cases : (y x : X) (xs : List X) → Contains (y ∷ xs) x → (y ≡ x) ⊎ Contains xs x
  contains_cases y x xs h = by_index h.0 h.1 h.2
    where
      by_index : (i : ℕ) → i < length (y ∷ xs) → get_or (y ∷ xs) i x ≡ x → (y ≡ x) ⊎ Contains xs x
      by_index zero lt is = inl is
      by_index (suc i) lt is = inr (i, omega (arith, lt), is)

  pub contains_first : (x : X) (xs : List X) → Contains (x ∷ xs) x
  contains_first x xs = (0, omega arith, refl)

  pub contains_later : (y x : X) (xs : List X) → Contains xs x → Contains (y ∷ xs) x
  contains_later y x xs h = Contains-append_right (y ∷ []) xs x h

  -- ---- filter

  into_if : (p : X → Bool) (y x : X) (xs : List X) (b : Bool) → p y ≡ b → p x ≡ true
      → (y ≡ x) ⊎ Contains (filter p xs) x → Contains (if b then y ∷ filter p xs else filter p xs) x
  into_if p y x xs true is passes (inl same) = (0, omega arith, same)
  into_if p y x xs true is passes (inr h) = contains_later y x (filter p xs) h
  into_if p y x xs false is passes (inl same) = absurd (true≢false (sym passes ∙ ap p (sym same) ∙ is))
  into_if p y x xs false is passes (inr h) = h

  pub into_filter : (p : X → Bool) (xs : List X) (x : X) → Contains xs x → p x ≡ true → Contains (filter p xs) x
  into_filter p [] x h passes = absurd (contains_none x h)
  into_filter p (y ∷ xs) x h passes = into_if p y x xs (p y) refl passes
      (here (λ there. into_filter p xs x there passes) (contains_cases y x xs h))
    where
      here : (Contains xs x → Contains (filter p xs) x) → (y ≡ x) ⊎ Contains xs x
          → (y ≡ x) ⊎ Contains (filter p xs) x
      here rest (inl same) = inl same
      here rest (inr there) = inr (rest there)

  out_if : (p : X → Bool) (y x : X) (xs : List X) (b : Bool) → p y ≡ b
      → (Contains (filter p xs) x → Contains xs x × (p x ≡ true))
      → Contains (if b then y ∷ filter p xs else filter p xs) x → Contains (y ∷ xs) x × (p x ≡ true)
  out_if p y x xs true is rest h = by_cases (contains_cases y x (filter p xs) h)
    where
      by_cases : (y ≡ x) ⊎ Contains (filter p xs) x → Contains (y ∷ xs) x × (p x ≡ true)
      by_cases (inl same) = ((0, omega arith, same), ap p (sym same) ∙ is)
      by_cases (inr there) = (contains_later y x xs (rest there).0, (rest there).1)
  out_if p y x xs false is rest h = (contains_later y x xs (rest h).0, (rest h).1)

  pub out_of_filter : (p : X → Bool) (xs : List X) (x : X) → Contains (filter p xs) x → Contains xs x × (p x ≡ true)
  out_of_filter p [] x h = absurd (contains_none x h)
  out_of_filter p (y ∷ xs) x h = out_if p y x xs (p y) refl (out_of_filter p xs x) h

  -- ---- any

  pub any_of : (p : X → Bool) (xs : List X) (x : X) → Contains xs x → p x ≡ true → list_any p xs ≡ true
  any_of p [] x h passes = absurd (contains_none x h)
  any_of p (y ∷ xs) x h passes = by_cases (λ there. any_of p xs x there passes) (p y) refl (contains_cases y x xs h)
    where
      by_cases : (Contains xs x → list_any p xs ≡ true) → (b : Bool) → p y ≡ b → (y ≡ x) ⊎ Contains xs x
          → (b || list_any p xs) ≡ true
      by_cases rest true is other = refl
      by_cases rest false is (inl same) = absurd (true≢false (sym passes ∙ ap p (sym same) ∙ is))
      by_cases rest false is (inr there) = rest there

  pub some_of : (p : X → Bool) (xs : List X) → list_any p xs ≡ true → (x : X) × Contains xs x × (p x ≡ true)
  some_of p [] is = absurd (true≢false (sym is))
  some_of p (y ∷ xs) is = by_cases (some_of p xs) (p y) refl is
    where
      by_cases : (list_any p xs ≡ true → (x : X) × Contains xs x × (p x ≡ true)) → (b : Bool) → p y ≡ b
          → (b || list_any p xs) ≡ true → (x : X) × Contains (y ∷ xs) x × (p x ≡ true)
      by_cases some true here any = (y, contains_first y xs, here)
      by_cases some false here any =
          let rest = some any in (rest.0, contains_later y rest.0 xs rest.1, rest.2)

module _ {X Y : Type 0} where
  -- ---- map and flat_map

  pub into_map : (f : X → Y) (xs : List X) (x : X) → Contains xs x → Contains (map f xs) (f x)
  into_map f [] x h = absurd (contains_none x h)
  into_map f (y ∷ xs) x h = by_cases (into_map f xs x) (contains_cases y x xs h)
    where
      by_cases : (Contains xs x → Contains (map f xs) (f x)) → (y ≡ x) ⊎ Contains xs x
          → Contains (f y ∷ map f xs) (f x)
      by_cases rest (inl same) = (0, omega arith, ap f same)
      by_cases rest (inr there) = contains_later (f y) (f x) (map f xs) (rest there)

  pub out_of_map : (f : X → Y) (xs : List X) (y : Y) → Contains (map f xs) y → (x : X) × Contains xs x × (f x ≡ y)
  out_of_map f [] y h = absurd (contains_none y h)
  out_of_map f (x ∷ xs) y h = by_cases (out_of_map f xs y) (contains_cases (f x) y (map f xs) h)
    where
      by_cases : (Contains (map f xs) y → (z : X) × Contains xs z × (f z ≡ y)) → (f x ≡ y) ⊎ Contains (map f xs) y
          → (z : X) × Contains (x ∷ xs) z × (f z ≡ y)
      by_cases out (inl same) = (x, contains_first x xs, same)
      by_cases out (inr there) =
          let rest = out there in (rest.0, contains_later x rest.0 xs rest.1, rest.2)

  pub into_flat_map : (f : X → List Y) (xs : List X) (x : X) (y : Y) → Contains xs x → Contains (f x) y
      → Contains (flat_map f xs) y
  into_flat_map f [] x y h there = absurd (contains_none x h)
  into_flat_map f (z ∷ xs) x y h there =
      by_cases (λ later. into_flat_map f xs x y later there) (contains_cases z x xs h)
    where
      by_cases : (Contains xs x → Contains (flat_map f xs) y) → (z ≡ x) ⊎ Contains xs x
          → Contains (f z ++ flat_map f xs) y
      by_cases rest (inl same) =
          Contains-append_left (f z) (flat_map f xs) y (subst (λ w. Contains (f w) y) (sym same) there)
      by_cases rest (inr later) = Contains-append_right (f z) (flat_map f xs) y (rest later)

  pub out_of_flat_map : (f : X → List Y) (xs : List X) (y : Y) → Contains (flat_map f xs) y
      → (x : X) × Contains xs x × Contains (f x) y
  out_of_flat_map f [] y h = absurd (contains_none y h)
  out_of_flat_map f (z ∷ xs) y h = by_cases (out_of_flat_map f xs y) (Contains-append_cases (f z) (flat_map f xs) y h)
    where
      by_cases : (Contains (flat_map f xs) y → (x : X) × Contains xs x × Contains (f x) y) → Contains (f z) y
          ⊎ Contains (flat_map f xs) y → (x : X) × Contains (z ∷ xs) x × Contains (f x) y
      by_cases out (inl here) = (z, contains_first z xs, here)
      by_cases out (inr later) =
          let rest = out later in (rest.0, contains_later z rest.0 xs rest.1, rest.2)

-- ---- numbers

pub into_among : (numbers : List ℕ) (tx : ℕ) → Contains numbers tx → list_any (λ n. n == tx) numbers ≡ true
into_among numbers tx there = any_of (λ n. n == tx) numbers tx there (number_itself tx)

pub out_of_among : (numbers : List ℕ) (tx : ℕ) → list_any (λ n. n == tx) numbers ≡ true → Contains numbers tx
out_of_among numbers tx is =
    let one = some_of (λ n. n == tx) numbers is in
    subst (Contains numbers) (same_number one.0 tx one.2) one.1
