-- Lengths and sums of lists, and lists in order.
use Rattle.std.proofs.Common.{◌≡◌, ◌⊎◌, ◌≤◌, ◌+◌, ℕ, suc, Bool, true, false, cond, List, [], ◌∷◌, ◌++◌, map, length}
use Rattle.std.proofs.Common.{sym, ap, subst, ◌∙◌, inl, inr, refl, arith, sum_by}
use Rattle.std.specs.List.{filter}
use Rattle.std.proofs.lemmas.List.Sums.{sum_by-cons}
use Rattle.ent_lists.specs.Elements.{In, Pairs, clash, of_all, in_second, shorter}

-- ---- numbers of sums

added : (all other first one rest more : ℕ) → all ≡ first + rest → other ≡ one + more → one ≤ first → more ≤ rest
    → other ≤ all
added all other first one rest more a b c d = omega (arith, a, b, c, d)

added_first : (all other first one rest more k : ℕ) → all ≡ first + rest → other ≡ one + more → one + k ≤ first
    → more ≤ rest → other + k ≤ all
added_first all other first one rest more k a b c d = omega (arith, a, b, c, d)

added_rest : (all other first one rest more k : ℕ) → all ≡ first + rest → other ≡ one + more → one ≤ first
    → more + k ≤ rest → other + k ≤ all
added_rest all other first one rest more k a b c d = omega (arith, a, b, c, d)

skipped : (all first rest other : ℕ) → all ≡ first + rest → other ≤ rest → other ≤ all
skipped all first rest other a b = omega (arith, a, b)

skipped_first : (all first rest other k : ℕ) → all ≡ first + rest → k ≤ first → other ≤ rest → other + k ≤ all
skipped_first all first rest other k a b c = omega (arith, a, b, c)

skipped_rest : (all first rest other k : ℕ) → all ≡ first + rest → other + k ≤ rest → other + k ≤ all
skipped_rest all first rest other k a b = omega (arith, a, b)

itself_least : (n : ℕ) → n ≤ n
itself_least n = omega arith

module _ {X : Type 0} where
  -- of an element and another of the list
  pub pairs_around : (R : X → X → Type 0) (before behind : List X) (x y : X) → Pairs R (before ++ x ∷ behind)
      → In y (before ++ behind) → R y x ⊎ R x y
  pairs_around R [] behind x y pairs at = inr (of_all (R x) behind y pairs.0 at)
  pairs_around R (z ∷ before) behind x y pairs (inl same) =
      inl (subst (λ w. R w x) (sym same)
      (of_all (R z) (before ++ x ∷ behind) x pairs.0 (in_second before (x ∷ behind) x (inl refl))))
  pairs_around R (z ∷ before) behind x y pairs (inr at) = pairs_around R before behind x y pairs.1 at

  pub shorter_without : (p : X → Bool) (xs : List X) (x : X) → In x xs → p x ≡ false
      → suc (length (filter p xs)) ≤ length xs
  shorter_without p [] x at off = absurd at
  shorter_without p (y ∷ ys) x at off = by (p y) refl at (shorter p ys) (λ there. shorter_without p ys x there off)
    where
      by : (b : Bool) → p y ≡ b → In x (y ∷ ys) → length (filter p ys) ≤ length ys
          → (In x ys → suc (length (filter p ys)) ≤ length ys)
          → suc (length (cond b (y ∷ filter p ys) (filter p ys))) ≤ suc (length ys)
      by true is (inl same) low rest = clash (p y) is (ap p (sym same) ∙ off)
      by true is (inr more) low rest = let h = rest more in omega (arith, h)
      by false is there low rest = omega (arith, low)

  -- ---- sums

  module _ (f : X → ℕ) where
    pub sum_filtered : (p : X → Bool) (xs : List X) → sum_by f (filter p xs) ≤ sum_by f xs
    sum_filtered p [] = omega arith
    sum_filtered p (x ∷ xs) = by (p x) (sum_filtered p xs)
      where
        by : (b : Bool) → sum_by f (filter p xs) ≤ sum_by f xs
            → sum_by f (cond b (x ∷ filter p xs) (filter p xs)) ≤ sum_by f (x ∷ xs)
        by true h =
            added _ _ (f x) (f x) _ _ (sum_by-cons f x xs) (sum_by-cons f x (filter p xs)) (itself_least (f x)) h
        by false h = skipped _ (f x) _ _ (sum_by-cons f x xs) h

    pub sum_without : (p : X → Bool) (xs : List X) (x : X) (k : ℕ) → In x xs → p x ≡ false → k ≤ f x
        → sum_by f (filter p xs) + k ≤ sum_by f xs
    sum_without p [] x k at off high = absurd at
    sum_without p (y ∷ ys) x k at off high =
        by (p y) refl at (sum_filtered p ys) (λ there. sum_without p ys x k there off high)
      where
        by : (b : Bool) → p y ≡ b → In x (y ∷ ys) → sum_by f (filter p ys) ≤ sum_by f ys
            → (In x ys → sum_by f (filter p ys) + k ≤ sum_by f ys)
            → sum_by f (cond b (y ∷ filter p ys) (filter p ys)) + k ≤ sum_by f (y ∷ ys)
        by true is (inl same) low rest = clash (p y) is (ap p (sym same) ∙ off)
        by true is (inr more) low rest =
            added_rest _ _ (f y) (f y) _ _ k (sum_by-cons f y ys) (sum_by-cons f y (filter p ys)) (itself_least (f y))
            (rest more)
        by false is (inl same) low rest =
            skipped_first _ (f y) _ _ k (sum_by-cons f y ys) (subst (λ z. k ≤ f z) same high) low
        by false is (inr more) low rest = skipped_rest _ (f y) _ _ k (sum_by-cons f y ys) (rest more)

    -- each element becomes another, which counts as much at most
    pub sum_mapped : (g : X → X) (xs : List X) → ((y : X) → In y xs → f (g y) ≤ f y)
        → sum_by f (map g xs) ≤ sum_by f xs
    sum_mapped g [] low = omega arith
    sum_mapped g (x ∷ xs) low =
        added _ _ (f x) (f (g x)) _ _ (sum_by-cons f x xs) (sum_by-cons f (g x) (map g xs)) (low x (inl refl))
        (sum_mapped g xs (λ y at. low y (inr at)))

    -- and one of them counts less
    pub sum_mapped_less : (g : X → X) (xs : List X) (x : X) (k : ℕ) → ((y : X) → In y xs → f (g y) ≤ f y) → In x xs
        → f (g x) + k ≤ f x → sum_by f (map g xs) + k ≤ sum_by f xs
    sum_mapped_less g [] x k low at less = absurd at
    sum_mapped_less g (y ∷ ys) x k low (inl same) less =
        added_first _ _ (f y) (f (g y)) _ _ k (sum_by-cons f y ys) (sum_by-cons f (g y) (map g ys))
        (subst (λ z. f (g z) + k ≤ f z) same less) (sum_mapped g ys (λ z at. low z (inr at)))
    sum_mapped_less g (y ∷ ys) x k low (inr at) less =
        added_rest _ _ (f y) (f (g y)) _ _ k (sum_by-cons f y ys) (sum_by-cons f (g y) (map g ys)) (low y (inl refl))
        (sum_mapped_less g ys x k (λ z there. low z (inr there)) at less)

    pub sum_below : (g : X → ℕ) (xs : List X) → ((y : X) → In y xs → f y ≤ g y) → sum_by f xs ≤ sum_by g xs
    sum_below g [] low = omega arith
    sum_below g (x ∷ xs) low =
        added _ _ (g x) (f x) _ _ (sum_by-cons g x xs) (sum_by-cons f x xs) (low x (inl refl))
        (sum_below g xs (λ y at. low y (inr at)))
