-- Elements at places of lists.
use Rattle.std.proofs.Common.{◌≡◌, ◌<◌, ◌≤◌, ◌+◌, ℕ, List, [], ◌∷◌, ◌++◌, length, take, get_or, map, Contains, sym, ap}
use Rattle.std.proofs.Common.{subst, ◌∙◌, inl, inr}
use Rattle.std.proofs.lemmas.List.{get_or-map, length-map, take_all, take_more}
use Rattle.ent_lists.specs.Elements.{In, in_contains, in_either, nth_in}

module _ {X Y : Type 0} (f : X → Y) (xs : List X) (i : ℕ) (x : X) (low : i < length xs) (is : x ≡ get_or xs i x) where
  long : i < length (map f xs)
  long = simp length-map low

  at : get_or (map f xs) i (f x) ≡ f x
  at = get_or-map f xs i x (f x) low ∙ ap f (sym is)

  -- it is among them
  pub image_there : (y : Y) → f x ≡ y → Contains (map f xs) y
  image_there y same =
      in_contains (map f xs) y
      (subst (λ (z : Y). In z (map f xs)) (at ∙ same) (nth_in (map f xs) i (f x) long))

  -- another isn't, where it isn't among those before
  pub image_other : (y : Y) → (f x ≡ y → ⊥) → (In y (take i (map f xs)) → ⊥) → In y (take (i + 1) (map f xs)) → ⊥
  image_other y apart before there =
      elim (in_either (take i (map f xs)) (f x ∷ []) y
      (subst (In y) (take_more (map f xs) i (f x) long ∙ ap (λ (z : Y). take i (map f xs) ++ z ∷ []) at) there)) [
        | inl a ↦ before a
        | inr b ↦ elim b [ inl same ↦ apart (sym same) | inr bad ↦ bad ]
      ]

pub images_all : {X Y : Type 0} (f : X → Y) (xs : List X) (n : ℕ) (y : Y) → length xs ≤ n
    → (In y (take n (map f xs)) → ⊥)
    → In y (map f xs) → ⊥
images_all f xs n y all none there =
    let long : length (map f xs) ≤ n = simp length-map all in
    none (subst (In y) (sym (take_all n (map f xs) long)) there)
