-- Elements of lists that pass a test, and lists that are empty.
use Rattle.std.proofs.Common.{◌≡◌, ◌⊎◌, Bool, true, false, cond, ◌||◌, List, [], ◌∷◌, ◌++◌, refl, sym, ap, ◌∙◌}
use Rattle.std.proofs.Common.{inl}
use Rattle.std.proofs.Common.{inr, Some}
use Rattle.std.specs.List.{list_any, list_all, find}
use Rattle.ent_lists.specs.Elements.{In, and_both, both_and}

-- ---- each element

module _ {X : Type 0} (p : X → Bool) where
  pub every : (xs : List X) → list_all p xs ≡ true → (x : X) → In x xs → p x ≡ true
  every [] is x at = absurd at
  every (y ∷ ys) is x (inl same) = ap p same ∙ (and_both (p y) (list_all p ys) is).0
  every (y ∷ ys) is x (inr at) = every ys (and_both (p y) (list_all p ys) is).1 x at

  pub of_every : (xs : List X) → ((x : X) → In x xs → p x ≡ true) → list_all p xs ≡ true
  of_every [] f = refl
  of_every (x ∷ xs) f = both_and (p x) (list_all p xs) (f x (inl refl)) (of_every xs (λ y at. f y (inr at)))

  pub found_in : (xs : List X) (x : X) → find p xs ≡ Some x → In x xs × (p x ≡ true)
  found_in [] x is = cc (is)
  found_in (y ∷ ys) x is = by (p y) refl is (found_in ys x)
    where
      one : (y x : X) → Some y ≡ Some x → y ≡ x
      one y x e = cc

      by : (b : Bool) → p y ≡ b → cond b (Some y) (find p ys) ≡ Some x
          → (find p ys ≡ Some x → In x ys × (p x ≡ true)) → In x (y ∷ ys) × (p x ≡ true)
      by true e is more = (inl (sym (one y x is)), ap p (sym (one y x is)) ∙ e)
      by false e is more = (inr (more is).0, (more is).1)

  pub found : (xs : List X) → list_any p xs ≡ true → (x : X) × (find p xs ≡ Some x)
  found [] is = absurd (cc)
  found (y ∷ ys) is = by (p y) is (found ys)
    where
      by : (b : Bool) → (b || list_any p ys) ≡ true → (list_any p ys ≡ true → (x : X) × (find p ys ≡ Some x))
          → (x : X) × (cond b (Some y) (find p ys) ≡ Some x)
      by true is more = (y, refl)
      by false is more = more is

-- ---- lists that are empty

pub none_first : {X : Type 0} (xs ys : List X) → xs ++ ys ≡ [] → xs ≡ []
none_first [] ys e = refl
none_first (x ∷ xs) ys e = absurd (filled e)
  where
    filled : x ∷ (xs ++ ys) ≡ [] → ⊥
    filled e = cc

pub none_second : {X : Type 0} (xs ys : List X) → xs ++ ys ≡ [] → ys ≡ []
none_second [] ys e = e
none_second (x ∷ xs) ys e = absurd (filled e)
  where
    filled : x ∷ (xs ++ ys) ≡ [] → ⊥
    filled e = cc

pub both_none : {X : Type 0} (xs ys : List X) → xs ≡ [] → ys ≡ [] → xs ++ ys ≡ []
both_none xs ys a b = (λ i. a i ++ b i)
