-- What stands in a list that is made of others.
use Rattle.std.proofs.Common.{◌≡◌, ℕ, zero, suc, ◌<◌, List, [], ◌∷◌, ◌++◌, length, ◌⊎◌, inl, inr, refl, ap, sym, subst}
use Rattle.std.proofs.Common.{arith}
use Rattle.std.specs.Prelude.{◌↔◌, slice_index_or}
use Rattle.std.specs.List.{Any, Contains, flat_map}
use Rattle.ent_lists.proofs.Truth.{in_turn}

-- ---- either, and both ways

pub turned : {A B : Type 0} → A ↔ B → B ↔ A
turned f = (f.1, f.0)

pub alike : {P : Type 0} → P ↔ P
alike = (λ p. p, λ p. p)

one_of : {A B C D : Type 0} → (A → C) → (B → D) → A ⊎ B → C ⊎ D
one_of f g (inl a) = inl (f a)
one_of f g (inr b) = inr (g b)

pub either : {A B C D : Type 0} → A ↔ C → B ↔ D → (A ⊎ B) ↔ (C ⊎ D)
either f g = (one_of f.0 g.0, one_of f.1 g.1)

pub holding : {P Q R : Type 0} → P ↔ Q → (P × R) ↔ (Q × R)
holding f = (λ h. (f.0 h.0, h.1), λ h. (f.1 h.0, h.1))

to_left : {P Q R : Type 0} → P ⊎ (Q ⊎ R) → (P ⊎ Q) ⊎ R
to_left (inl p) = inl (inl p)
to_left (inr (inl q)) = inl (inr q)
to_left (inr (inr r)) = inr r

to_right : {P Q R : Type 0} → (P ⊎ Q) ⊎ R → P ⊎ (Q ⊎ R)
to_right (inl (inl p)) = inl p
to_right (inl (inr q)) = inr (inl q)
to_right (inr r) = inr (inr r)

pub grouped : {P Q R : Type 0} → (P ⊎ (Q ⊎ R)) ↔ ((P ⊎ Q) ⊎ R)
grouped = (to_left, to_right)

crossed_to : {A B C D : Type 0} → A ⊎ (B ⊎ (C ⊎ D)) → (A ⊎ C) ⊎ (B ⊎ D)
crossed_to (inl a) = inl (inl a)
crossed_to (inr (inl b)) = inr (inl b)
crossed_to (inr (inr (inl c))) = inl (inr c)
crossed_to (inr (inr (inr d))) = inr (inr d)

crossed_from : {A B C D : Type 0} → (A ⊎ C) ⊎ (B ⊎ D) → A ⊎ (B ⊎ (C ⊎ D))
crossed_from (inl (inl a)) = inl a
crossed_from (inl (inr c)) = inr (inr (inl c))
crossed_from (inr (inl b)) = inr (inl b)
crossed_from (inr (inr d)) = inr (inr (inr d))

pub crossed : {A B C D : Type 0} → (A ⊎ (B ⊎ (C ⊎ D))) ↔ ((A ⊎ C) ⊎ (B ⊎ D))
crossed = (crossed_to, crossed_from)

-- what stands beside nothing stands alone
pub never : {P Q : Type 0} → (Q → ⊥) → P ⊎ Q → P
never none (inl p) = p
never none (inr q) = absurd (none q)

-- ---- lists

module _ {A : Type 0} where
  pub none_there : {x : A} → Contains [] x → ⊥
  none_there h = absurd (omega (arith, h.1))

  at_first : (y : A) (xs : List A) (x : A) (k : ℕ) → k < suc (length xs) → slice_index_or (y ∷ xs) k x ≡ x
      → (y ≡ x) ⊎ Contains xs x
  at_first y xs x zero l e = inl e
  at_first y xs x (suc k) l e = inr (k, omega arith, e)

  pub here : (y : A) (xs : List A) (x : A) → y ≡ x → Contains (y ∷ xs) x
  here y xs x e = (0, omega arith, e)

  pub there : (y : A) (xs : List A) (x : A) → Contains xs x → Contains (y ∷ xs) x
  there y xs x h = (suc h.0, omega (arith, h.1), h.2)

  back : (y : A) (xs : List A) (x : A) → (y ≡ x) ⊎ Contains xs x → Contains (y ∷ xs) x
  back y xs x (inl e) = here y xs x e
  back y xs x (inr h) = there y xs x h

  pub contains_cons : (y : A) (xs : List A) (x : A) → Contains (y ∷ xs) x ↔ ((y ≡ x) ⊎ Contains xs x)
  contains_cons y xs x = (λ h. at_first y xs x h.0 h.1 h.2, back y xs x)

  none_first : {P : Type 0} {x : A} → Contains [] x ⊎ P → P
  none_first (inl h) = absurd (none_there h)
  none_first (inr p) = p

  pub contains_append : (xs ys : List A) (x : A) → Contains (xs ++ ys) x ↔ (Contains xs x ⊎ Contains ys x)
  contains_append [] ys x = (inr, none_first)
  contains_append (y ∷ xs) ys x =
      in_turn (contains_cons y (xs ++ ys) x)
      (in_turn (either alike (contains_append xs ys x))
      (in_turn grouped (either (turned (contains_cons y xs x)) alike)))

  any_at : (P : A → Type 0) (y : A) (xs : List A) (k : ℕ) (x : A) → k < suc (length xs)
      → slice_index_or (y ∷ xs) k x ≡ x → P x → P y ⊎ Any P xs
  any_at P y xs zero x l e p = inl (subst P (sym e) p)
  any_at P y xs (suc k) x l e p = inr (k, x, omega arith, e, p)

  any_back : (P : A → Type 0) (y : A) (xs : List A) → P y ⊎ Any P xs → Any P (y ∷ xs)
  any_back P y xs (inl p) = (0, y, omega arith, refl, p)
  any_back P y xs (inr h) = (suc h.0, h.1, omega (arith, h.2), h.3, h.4)

  pub any_nil : (P : A → Type 0) → Any P [] → ⊥
  any_nil P h = absurd (omega (arith, h.2))

  pub any_cons : (P : A → Type 0) (y : A) (xs : List A) → Any P (y ∷ xs) ↔ (P y ⊎ Any P xs)
  any_cons P y xs = (λ h. any_at P y xs h.0 h.1 h.2 h.3 h.4, any_back P y xs)

  pub any_two : (P : A → Type 0) (x y : A) → Any P (x ∷ y ∷ []) ↔ (P x ⊎ P y)
  any_two P x y =
      in_turn (any_cons P x (y ∷ [])) (either alike (in_turn (any_cons P y []) (never (any_nil P), inl)))

  pub any_same : (P Q : A → Type 0) → ((x : A) → P x ↔ Q x) → (xs : List A) → Any P xs ↔ Any Q xs
  any_same P Q e xs = (λ h. (h.0, h.1, h.2, h.3, (e h.1).0 h.4), λ h. (h.0, h.1, h.2, h.3, (e h.1).1 h.4))

pub contains_flat_map : {A B : Type 0} (f : A → List B) (y : B) (xs : List A)
    → Contains (flat_map f xs) y ↔ Any (λ x. Contains (f x) y) xs
contains_flat_map f y [] = (λ h. absurd (none_there h), λ h. absurd (any_nil (λ x. Contains (f x) y) h))
contains_flat_map f y (x ∷ xs) =
    in_turn (contains_append (f x) (flat_map f xs) y)
    (in_turn (either alike (contains_flat_map f y xs)) (turned (any_cons (λ x. Contains (f x) y) x xs)))

-- ---- lists that are cut before one of their items

-- one of the items has a property, those before it being these
abbrev pub CutWhere : {A : Type 0} → (List A → A → Type 0) → List A → Type 0
CutWhere {A} P xs = (before : List A) × (x : A) × (after : List A) × (xs ≡ before ++ x ∷ after) × P before x

module _ {A : Type 0} where
  nothing_cut : (before : List A) (x : A) (after : List A) → [] ≡ before ++ x ∷ after → ⊥
  nothing_cut [] x after e = cc
  nothing_cut (first ∷ before) x after e = cc

  pub cut_nil : (P : List A → A → Type 0) → CutWhere P [] → ⊥
  cut_nil P h = nothing_cut h.0 h.1 h.2 h.3

  cut_from : (P : List A → A → Type 0) (y : A) (xs before : List A) (x : A) (after : List A)
      → y ∷ xs ≡ before ++ x ∷ after → P before x → P [] y ⊎ CutWhere (λ before. P (y ∷ before)) xs
  cut_from P y xs [] x after e p = let same : x ≡ y = cc in inl (subst (P []) same p)
  cut_from P y xs (first ∷ before) x after e p =
      let same : first ≡ y = cc in
      let rest : xs ≡ before ++ x ∷ after = cc in
      inr (before, x, after, rest, subst (λ z. P (z ∷ before) x) same p)

  cut_to : (P : List A → A → Type 0) (y : A) (xs : List A) → P [] y ⊎ CutWhere (λ before. P (y ∷ before)) xs
      → CutWhere P (y ∷ xs)
  cut_to P y xs (inl p) = ([], y, xs, refl, p)
  cut_to P y xs (inr h) = (y ∷ h.0, h.1, h.2, ap (λ rest. y ∷ rest) h.3, h.4)

  pub cut_cons : (P : List A → A → Type 0) (y : A) (xs : List A)
      → CutWhere P (y ∷ xs) ↔ (P [] y ⊎ CutWhere (λ before. P (y ∷ before)) xs)
  cut_cons P y xs = (λ h. cut_from P y xs h.0 h.1 h.2 h.3 h.4, cut_to P y xs)

  pub cut_same : (P Q : List A → A → Type 0) → ((before : List A) (x : A) → P before x ↔ Q before x) → (xs : List A)
      → CutWhere P xs ↔ CutWhere Q xs
  cut_same P Q f xs = (
    λ h. (h.0, h.1, h.2, h.3, (f h.0 h.1).0 h.4),
    λ h. (h.0, h.1, h.2, h.3, (f h.0 h.1).1 h.4),
  )
