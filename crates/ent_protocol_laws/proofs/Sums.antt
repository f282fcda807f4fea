-- Sums over lists.
use Rattle.std.proofs.Common.{◌≡◌, ◌≤◌, ◌+◌, ℕ, Bool, true, false, cond, List, [], ◌∷◌, map, length, refl}
use Rattle.std.proofs.Common.{sym, ap, ◌∙◌, inl, inr, arith, nat_lt, Option, Some, None}
use Rattle.std.proofs.lemmas.List.Sums.{sum_by-cons}
use Rattle.std.specs.List.{filter, filter_map, cons_option, sum_by}
use Rattle.ent_protocol.specs.State.{inserted, by_number}
use Rattle.ent_lists.specs.Elements.{In, clash}

module _ {X : Type 0} (f : X → ℕ) where
  pub sum_inserted : (number : X → ℕ) (x : X) (xs : List X) → sum_by f (inserted number x xs) ≡ f x + sum_by f xs
  sum_inserted number x [] = sum_by-cons f x []
  sum_inserted number x (y ∷ ys) = by (nat_lt (number x) (number y)) (sum_inserted number x ys)
    where
      swapped : (a b c all : ℕ) → all ≡ b + c → a + all ≡ b + (a + c)
      swapped a b c all e = omega (arith, e)

      by : (b : Bool) → sum_by f (inserted number x ys) ≡ f x + sum_by f ys
          → sum_by f (cond b (x ∷ y ∷ ys) (y ∷ inserted number x ys)) ≡ f x + sum_by f (y ∷ ys)
      by true e = sum_by-cons f x (y ∷ ys)
      by false e =
          sum_by-cons f y (inserted number x ys) ∙ swapped (f y) (f x) (sum_by f ys) _ e
          ∙ ap (λ k. f x + k) (sym (sum_by-cons f y ys))

  pub sum_by_number : (number : X → ℕ) (xs : List X) → sum_by f (by_number number xs) ≡ sum_by f xs
  sum_by_number number [] = refl
  sum_by_number number (x ∷ xs) =
      sum_inserted number x (by_number number xs) ∙ ap (λ k. f x + k) (sum_by_number number xs)
      ∙ sym (sum_by-cons f x xs)

  -- fewer pass
  pub sum_fewer : (p q : X → Bool) (xs : List X) → ((x : X) → In x xs → p x ≡ true → q x ≡ true)
      → sum_by f (filter p xs) ≤ sum_by f (filter q xs)
  sum_fewer p q [] to = omega arith
  sum_fewer p q (x ∷ xs) to = by (p x) (q x) (to x (inl refl)) (sum_fewer p q xs (λ y at. to y (inr at)))
    where
      by : (b c : Bool) → (b ≡ true → c ≡ true) → sum_by f (filter p xs) ≤ sum_by f (filter q xs)
          → sum_by f (cond b (x ∷ filter p xs) (filter p xs)) ≤ sum_by f (cond c (x ∷ filter q xs) (filter q xs))
      by true true g low =
          let e = sum_by-cons f x (filter p xs) in
          let h = sum_by-cons f x (filter q xs) in
          omega (arith, e, h, low)
      by true false g low = clash false (g refl) refl
      by false true g low = let h = sum_by-cons f x (filter q xs) in omega (arith, h, low)
      by false false g low = low

  pub sum_mapped : (g : X → X) (xs : List X) → ((x : X) → In x xs → f (g x) ≡ f x)
      → sum_by f (map g xs) ≡ sum_by f xs
  sum_mapped g [] same = refl
  sum_mapped g (x ∷ xs) same =
      sum_by-cons f (g x) (map g xs)
      ∙ (λ i. same x (inl refl) i + sum_mapped g xs (λ y at. same y (inr at)) i)
      ∙ sym (sum_by-cons f x xs)

module _ {X Y : Type 0} (f : X → ℕ) (g : Y → ℕ) where
  -- what some become is worth no more than they
  pub sum_given : (to : X → Option Y) (xs : List X) → ((x : X) (y : Y) → to x ≡ Some y → g y ≤ f x)
      → sum_by g (filter_map to xs) ≤ sum_by f xs
  sum_given to [] low = omega arith
  sum_given to (x ∷ xs) low = by (to x) refl (sum_given to xs low)
    where
      by : (o : Option Y) → to x ≡ o → sum_by g (filter_map to xs) ≤ sum_by f xs
          → sum_by g (cons_option o (filter_map to xs)) ≤ sum_by f (x ∷ xs)
      by (Some y) e rest =
          let h = sum_by-cons f x xs in
          let k = sum_by-cons g y (filter_map to xs) in
          let less = low x y e in
          omega (arith, h, k, less, rest)
      by None e rest = let h = sum_by-cons f x xs in omega (arith, h, rest)

  -- each of some becomes one that is worth less
  pub sum_lowered : (to : X → Y) (xs : List X) → ((x : X) → In x xs → g (to x) + 1 ≤ f x)
      → sum_by g (map to xs) + length xs ≤ sum_by f xs
  sum_lowered to [] low = omega arith
  sum_lowered to (x ∷ xs) low =
      let h = sum_by-cons f x xs in
      let k = sum_by-cons g (to x) (map to xs) in
      let less = low x (inl refl) in
      let rest = sum_lowered to xs (λ y at. low y (inr at)) in
      omega (arith, h, k, less, rest)
