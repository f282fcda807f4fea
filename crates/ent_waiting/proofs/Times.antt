-- How often a number stands in a list, by a key.
use Rattle.std.proofs.Common.{◌≡◌, ◌≤◌, ◌+◌, ℕ, suc, Bool, true, false, cond, not, ◌==◌, List, [], ◌∷◌, ◌++◌}
use Rattle.std.proofs.Common.{refl, sym, ap, ◌∙◌, inl, inr, arith}
use Rattle.std.specs.List.{filter}
use Rattle.ent_lists.specs.Elements.{In, same_number, number_itself, other_number}
use Rattle.ent_lists.proofs.Numbers.{one_added, one_more, one_if}

module _ {X : Type 0} (key : X → ℕ) (n : ℕ) where
  abbrev pub times : List X → ℕ
  times [] = 0
  times (x ∷ xs) = one_if (key x == n) (times xs)

  pub times_joined : (xs ys : List X) → times (xs ++ ys) ≡ times xs + times ys
  times_joined [] ys = nothing_before (times ys)
    where
      nothing_before : (k : ℕ) → k ≡ 0 + k
      nothing_before k = omega arith
  times_joined (x ∷ xs) ys =
      ap (one_if (key x == n)) (times_joined xs ys) ∙ one_added (key x == n) (times xs) (times ys)

  is_true : (x : X) → key x ≡ n → (key x == n) ≡ true
  is_true x own = ap (λ (k : ℕ). k == n) own ∙ number_itself n

  -- one element more, behind the others
  pub times_same : (xs : List X) (x : X) → key x ≡ n → times (xs ++ x ∷ []) ≡ times xs + 1
  times_same xs x own =
      times_joined xs (x ∷ []) ∙ ap (λ b. times xs + one_if b 0) (is_true x own)

  pub times_other : (xs : List X) (x : X) → (key x ≡ n → ⊥) → times (xs ++ x ∷ []) ≡ times xs
  times_other xs x apart =
      times_joined xs (x ∷ []) ∙ ap (λ b. times xs + one_if b 0) (other_number (key x) n apart) ∙ nothing (times xs)
    where
      nothing : (k : ℕ) → k + 0 ≡ k
      nothing k = omega arith

  pub times_in : (xs : List X) (x : X) → In x xs → key x ≡ n → 1 ≤ times xs
  times_in [] x at own = absurd at
  times_in (y ∷ ys) x (inl same) own = by (key y == n) (ap (λ z. key z == n) (sym same) ∙ is_true x own)
    where
      by : (b : Bool) → b ≡ true → 1 ≤ one_if b (times ys)
      by true e = omega arith
      by false e = cc
  times_in (y ∷ ys) x (inr at) own =
      let there = times_in ys x at own in
      let more = one_more (key y == n) (times ys) in
      omega (arith, there, more)

  pub in_times : (xs : List X) → 1 ≤ times xs → (x : X) × In x xs × (key x ≡ n)
  in_times [] h = absurd (omega (arith, h))
  in_times (y ∷ ys) h = by (key y == n) refl h (in_times ys)
    where
      by : (b : Bool) → (key y == n) ≡ b → 1 ≤ one_if b (times ys)
          → (1 ≤ times ys → (x : X) × In x ys × (key x ≡ n)) → (x : X) × In x (y ∷ ys) × (key x ≡ n)
      by true is h rest = (y, inl refl, same_number (key y) n is)
      by false is h rest = let r = rest h in (r.0, inr r.1, r.2)

  twice : (z : X) (zs : List X) (x y : X) → x ≡ z → In y zs → key x ≡ n → key y ≡ n
      → one_if (key z == n) (times zs) ≤ 1 → ⊥
  twice z zs x y a b e f low =
      let is : (key z == n) ≡ true = ap (λ w. key w == n) (sym a) ∙ is_true x e in
      let grown : one_if (key z == n) (times zs) ≡ suc (times zs) = ap (λ c. one_if c (times zs)) is in
      let there = times_in zs y b f in
      absurd (omega (arith, grown, there, low))

  -- two of one key are one, where it stands once
  pub one_of : (xs : List X) (x y : X) → In x xs → In y xs → key x ≡ n → key y ≡ n → times xs ≤ 1 → x ≡ y
  one_of [] x y at bt e f low = absurd at
  one_of (z ∷ zs) x y (inl a) (inl b) e f low = a ∙ sym b
  one_of (z ∷ zs) x y (inl a) (inr b) e f low = absurd (twice z zs x y a b e f low)
  one_of (z ∷ zs) x y (inr a) (inl b) e f low = absurd (twice z zs y x b a f e low)
  one_of (z ∷ zs) x y (inr a) (inr b) e f low =
      let more = one_more (key z == n) (times zs) in
      one_of zs x y a b e f (omega (arith, low, more))

-- ---- without those of a key

module _ {X : Type 0} (key : X → ℕ) (k : ℕ) where
  abbrev left : List X → List X
  left xs = filter (λ x. not (key x == k)) xs

  pub times_gone : (xs : List X) → times key k (left xs) ≡ 0
  times_gone [] = refl
  times_gone (x ∷ xs) = by (key x == k) refl (times_gone xs)
    where
      by : (b : Bool) → (key x == k) ≡ b → times key k (left xs) ≡ 0
          → times key k (cond (not b) (x ∷ left xs) (left xs)) ≡ 0
      by true is e = e
      by false is e = ap (λ b. one_if b (times key k (left xs))) is ∙ e

  pub times_left : (m : ℕ) → (k ≡ m → ⊥) → (xs : List X) → times key m (left xs) ≡ times key m xs
  times_left m apart [] = refl
  times_left m apart (x ∷ xs) = by (key x == k) refl (times_left m apart xs)
    where
      by : (b : Bool) → (key x == k) ≡ b → times key m (left xs) ≡ times key m xs
          → times key m (cond (not b) (x ∷ left xs) (left xs)) ≡ one_if (key x == m) (times key m xs)
      by true is e =
          e ∙ sym (ap (λ b. one_if b (times key m xs))
          (other_number (key x) m (λ same. apart (sym (same_number (key x) k is) ∙ same))))
      by false is e = ap (one_if (key x == m)) e
