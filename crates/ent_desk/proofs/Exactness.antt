-- Where each of one list is among another that is as long, and no two of the first have one key, the two are the same
-- but for their order.
use Rattle.std.proofs.Common.{◌≡◌, ◌⊎◌, inl, inr, ℕ, zero, suc, ◌<◌, List, [], ◌∷◌, ◌++◌, length, map, refl, ap}
use Rattle.std.proofs.Common.{sym}
use Rattle.std.proofs.Common.{subst, arith, length-append}
use Rattle.std.specs.Prelude.{Contains, IsPermutation, slice_index_or}
use Rattle.std.specs.List.{AllByRecursion}
use Rattle.std.proofs.lemmas.List.Sorted.{IsPermutation-refl, IsPermutation-cons, IsPermutation-middle}
use Rattle.std.proofs.lemmas.List.Sorted.{IsPermutation-sym}
use Rattle.std.proofs.lemmas.List.Sorted.{IsPermutation-trans}

module _ {X : Type 0} where
  abbrev pub In : X → List X → Type 0
  In x [] = ⊥
  In x (y ∷ ys) = (x ≡ y) ⊎ In x ys

  abbrev pub AllIn : List X → List X → Type 0
  AllIn [] ys = Unit {0}
  AllIn (x ∷ xs) ys = In x ys × AllIn xs ys

  -- the keys go up by one, from n on
  abbrev pub Ascends : (X → ℕ) → ℕ → List X → Type 0
  Ascends key n [] = Unit {0}
  Ascends key n (x ∷ xs) = (key x ≡ n) × Ascends key (suc n) xs

  in_at : (x : X) (ys : List X) (k : ℕ) → k < length ys → slice_index_or ys k x ≡ x → In x ys
  in_at x [] k low is = absurd (omega (arith, low))
  in_at x (y ∷ ys) zero low is = inl (sym is)
  in_at x (y ∷ ys) (suc k) low is = inr (in_at x ys k (omega (arith, low)) is)

  pub in_contains : (x : X) (ys : List X) → Contains ys x → In x ys
  in_contains x ys h = in_at x ys h.0 h.1 h.2

  pub contains_in : (x : X) (ys : List X) → In x ys → Contains ys x
  contains_in x [] h = absurd h
  contains_in x (y ∷ ys) (inl e) = (0, omega arith, sym e)
  contains_in x (y ∷ ys) (inr h) =
      let c = contains_in x ys h in
      let low = c.1 in
      (suc c.0, omega (arith, low), c.2)

  -- where an element stands
  record Place (x : X) (ys : List X) : Type 0 where
    front : List X
    back : List X
    is : ys ≡ front ++ x ∷ back

  place : (x : X) (ys : List X) → In x ys → Place x ys
  place x [] h = absurd h
  place x (y ∷ ys) (inl e) = record { front = []; back = ys; is = ap (λ z. z ∷ ys) (sym e) }
  place x (y ∷ ys) (inr h) =
      let p = place x ys h in
      record { front = y ∷ p.front; back = p.back; is = ap (λ zs. y ∷ zs) p.is }

  -- what stands elsewhere stays
  elsewhere : (x z : X) (front back : List X) → (z ≡ x → ⊥) → In z (front ++ x ∷ back) → In z (front ++ back)
  elsewhere x z [] back other (inl e) = absurd (other e)
  elsewhere x z [] back other (inr h) = h
  elsewhere x z (y ∷ front) back other (inl e) = inl e
  elsewhere x z (y ∷ front) back other (inr h) = inr (elsewhere x z front back other h)

  all_elsewhere : (key : X → ℕ) (n m : ℕ) (x : X) (xs front back : List X) → key x ≡ n → n < m → Ascends key m xs
      → AllIn xs (front ++ x ∷ back) → AllIn xs (front ++ back)
  all_elsewhere key n m x [] front back at up asc h = tt
  all_elsewhere key n m x (z ∷ xs) front back at up asc h =
      let other : z ≡ x → ⊥ = λ e. (let same : key z ≡ key x = ap key e in absurd (omega (arith, same, asc.0, at))) in (
        elsewhere x z front back other h.0,
        all_elsewhere key n (suc m) x xs front back at (omega (arith, up)) asc.1 h.1,
      )

  pub exact : (key : X → ℕ) (n : ℕ) (xs ys : List X) → Ascends key n xs → AllIn xs ys → length xs ≡ length ys
      → IsPermutation xs ys
  exact key n [] [] asc h e = IsPermutation-refl []
  exact key n [] (y ∷ ys) asc h e = absurd (omega (arith, e))
  exact key n (x ∷ xs) ys asc h e =
      let p = place x ys h.0 in
      let rest : AllIn xs (p.front ++ p.back) =
      all_elsewhere key n (suc n) x xs p.front p.back asc.0 (omega arith) asc.1
      (subst (λ (zs : List X). AllIn xs zs) p.is h.1) in
      let count : length ys ≡ length (p.front ++ x ∷ p.back) = ap length p.is in
      let len : length xs ≡ length (p.front ++ p.back) =
      omega (arith, e, count, length-append p.front (x ∷ p.back), length-append p.front p.back) in
      let tail = exact key (suc n) xs (p.front ++ p.back) asc.1 rest len in
      subst (λ (zs : List X). IsPermutation (x ∷ xs) zs) (sym p.is)
      (IsPermutation-trans (x ∷ xs) (x ∷ (p.front ++ p.back)) (p.front ++ x ∷ p.back)
      (IsPermutation-cons x xs (p.front ++ p.back) tail)
      (IsPermutation-sym (p.front ++ x ∷ p.back) (x ∷ (p.front ++ p.back)) (IsPermutation-middle p.front x p.back)))

  -- all of a list contain it
  pub all_in : (xs ys : List X) → AllByRecursion (Contains ys) xs → AllIn xs ys
  all_in [] ys h = tt
  all_in (x ∷ xs) ys h = (in_contains x ys h.0, all_in xs ys h.1)

  -- what holds of each of a list, by its elements
  pub all_by : (P : X → Type 0) (xs : List X) → ((x : X) → In x xs → P x) → AllByRecursion P xs
  all_by P [] h = tt
  all_by P (x ∷ xs) h = (h x (inl refl), all_by P xs (λ y at. h y (inr at)))

  pub by_all : (P : X → Type 0) (xs : List X) (x : X) → AllByRecursion P xs → In x xs → P x
  by_all P [] x h at = absurd at
  by_all P (y ∷ ys) x h (inl e) = subst P (sym e) h.0
  by_all P (y ∷ ys) x h (inr at) = by_all P ys x h.1 at

-- the images of what is there
pub in_map : {X Y : Type 0} (f : X → Y) (x : X) (ys : List X) → In x ys → In (f x) (map f ys)
in_map f x [] h = absurd h
in_map f x (y ∷ ys) (inl e) = inl (ap f e)
in_map f x (y ∷ ys) (inr h) = inr (in_map f x ys h)
