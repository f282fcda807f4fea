-- Lists that grow at their end, and texts of them.
use Rattle.std.proofs.Common.{◌≡◌, ◌⊎◌, subst, ℕ, ◌+◌, suc, List, [], ◌∷◌, ◌++◌, map, length, refl, sym, ap, ◌∙◌}
use Rattle.std.proofs.Common.{arith, Some}
use Rattle.std.proofs.Common.{inl, inr, flat_map}
use Rattle.std.proofs.lemmas.List.{append-nil, append_assoc, length-append}
use Rattle.std.proofs.lemmas.List.Concat.{flat_map-append}
use Rattle.ent_lists.specs.Elements.{In, Pairs, in_either, pairs_across}
use Rattle.ent_lists.proofs.Lists.{split_last}
use Rattle.ent_history.specs.Draft.{on_last, last_of}

-- ---- the last element

module _ {X : Type 0} where
  same_some : (x y : X) → Some x ≡ Some y → x ≡ y
  same_some x y e = cc

  -- what stands before the last element
  pub ends : (xs : List X) (x : X) → last_of xs ≡ Some x → (front : List X) × (xs ≡ front ++ x ∷ [])
  ends [] x e = cc (e)
  ends (y ∷ []) x e = ([], ap (λ z. z ∷ []) (same_some y x e))
  ends (y ∷ z ∷ more) x e = let rest = ends (z ∷ more) x e in (y ∷ rest.0, ap (λ zs. y ∷ zs) rest.1)

  pub last_is : (front : List X) (x y : X) → last_of (front ++ x ∷ []) ≡ Some y → x ≡ y
  last_is [] x y e = same_some x y e
  last_is (z ∷ []) x y e = same_some x y e
  last_is (z ∷ w ∷ front) x y e = last_is (w ∷ front) x y e

  pub changed : (f : X → X) (front : List X) (x : X) → on_last f (front ++ x ∷ []) ≡ front ++ f x ∷ []
  changed f [] x = refl
  changed f (y ∷ []) x = refl
  changed f (y ∷ z ∷ front) x = ap (λ more. y ∷ more) (changed f (z ∷ front) x)

  pub length_changed : (f : X → X) (xs : List X) → length (on_last f xs) ≡ length xs
  length_changed f [] = refl
  length_changed f (y ∷ []) = refl
  length_changed f (y ∷ z ∷ more) = ap (λ n. suc n) (length_changed f (z ∷ more))

  pub map_changed : {Y : Type 0} (g : X → Y) (f : X → X) (xs : List X) → ((x : X) → g (f x) ≡ g x)
      → map g (on_last f xs) ≡ map g xs
  map_changed g f [] same = refl
  map_changed g f (y ∷ []) same = ap (λ z. z ∷ []) (same y)
  map_changed g f (y ∷ z ∷ more) same = ap (λ zs. g y ∷ zs) (map_changed g f (z ∷ more) same)

  pub longer : (xs : List X) (x : X) → length (xs ++ x ∷ []) ≡ length xs + 1
  longer xs x = length-append xs (x ∷ [])

-- ---- what stands before a new element

module _ {X : Type 0} (R : X → X → Type 0) (trans : (x y z : X) → R x y → R y z → R x z) where
  behind_last : (front : List X) (last x y : X) → Pairs R (front ++ last ∷ []) → R last x
      → In y front ⊎ In y (last ∷ []) → R y x
  behind_last front last x y pairs next (inl early) =
      trans y last x (pairs_across R front (last ∷ []) y last pairs early (inl refl)) next
  behind_last front last x y pairs next (inr (inl same)) = subst (λ (z : X). R z x) (sym same) next
  behind_last front last x y pairs next (inr (inr none)) = absurd none

  -- where the last element stands before a new one, all do
  pub all_before : (xs : List X) (x : X) → Pairs R xs
      → ((front : List X) (last : X) → xs ≡ front ++ last ∷ [] → R last x) → (y : X) → In y xs → R y x
  all_before xs x pairs next y at =
      elim (split_last xs) [
        | inl e ↦ absurd (subst (In y) e at)
        | inr w ↦ behind_last w.0 w.1 x y (subst (Pairs R) w.2 pairs) (next w.0 w.1 w.2)
            (in_either w.0 (w.1 ∷ []) y (subst (In y) w.2 at))
      ]

-- ---- texts

pub assoc3 : (a b c x : List ℕ) → (a ++ (b ++ c)) ++ x ≡ a ++ (b ++ (c ++ x))
assoc3 a b c x = simp append_assoc

pub assoc4 : (a b c d x : List ℕ) → (a ++ (b ++ (c ++ d))) ++ x ≡ a ++ (b ++ (c ++ (d ++ x)))
assoc4 a b c d x = simp append_assoc

pub assoc5 : (a b c d e x : List ℕ) → (a ++ (b ++ (c ++ (d ++ e)))) ++ x ≡ a ++ (b ++ (c ++ (d ++ (e ++ x))))
assoc5 a b c d e x = simp append_assoc

pub assoc6 : (a b c d e f x : List ℕ)
    → (a ++ (b ++ (c ++ (d ++ (e ++ f))))) ++ x ≡ a ++ (b ++ (c ++ (d ++ (e ++ (f ++ x)))))
assoc6 a b c d e f x = simp append_assoc

module _ {X : Type 0} where
  pub flat_behind : (f : X → List ℕ) (xs : List X) (x : X) → flat_map f (xs ++ x ∷ []) ≡ flat_map f xs ++ f x
  flat_behind f xs x = flat_map-append f xs (x ∷ []) ∙ ap (λ more. flat_map f xs ++ more) (append-nil (f x))

  pub flat_same : (f g : X → List ℕ) (xs : List X) → ((x : X) → In x xs → f x ≡ g x) → flat_map f xs ≡ flat_map g xs
  flat_same f g [] same = refl
  flat_same f g (x ∷ xs) same =
      (λ i. same x (inl refl) i ++ flat_map f xs)
      ∙ ap (λ more. g x ++ more) (flat_same f g xs (λ y at. same y (inr at)))

  -- a text of numbered things, with one more behind them
  module _ (text : ℕ → List X → List ℕ) (one : ℕ → X → List ℕ) (none : (number : ℕ) → text number [] ≡ [])
      (more : (number : ℕ) (x : X) (xs : List X) → text number (x ∷ xs) ≡ one number x ++ text (number + 1) xs) where
    pub behind : (number : ℕ) (xs : List X) (x : X) (next : ℕ) → next ≡ length xs + number
        → text number (xs ++ x ∷ []) ≡ text number xs ++ one next x
    behind number [] x next e =
        more number x []
        ∙ ap (λ rest. one number x ++ rest) (none (number + 1))
        ∙ append-nil (one number x)
        ∙ ap (λ (n : ℕ). one n x) same
        ∙ sym (ap (λ front. front ++ one next x) (none number))
      where
        same : number ≡ next
        same = omega (arith, e)
    behind number (y ∷ ys) x next e =
        more number y (ys ++ x ∷ [])
        ∙ ap (λ rest. one number y ++ rest) (behind (number + 1) ys x next (omega (arith, e)))
        ∙ sym (append_assoc (one number y) (text (number + 1) ys) (one next x))
        ∙ sym (ap (λ front. front ++ one next x) (more number y ys))
