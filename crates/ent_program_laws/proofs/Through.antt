-- Functions over lists whose elements have changed, where what is made of each is the same.
use Rattle.std.proofs.Common.{◌≡◌, Bool, ◌&&◌, List, [], ◌∷◌, ◌++◌, map, flat_map, refl, option_map}
use Rattle.std.proofs.Common.{ℕ, zero, suc}
use Rattle.std.specs.List.{list_all}
use Rattle.std.proofs.lemmas.Option.{slice_get-map}
use Rattle.ent_semantics.specs.Serial.{numbered}

module _ {A B C : Type 0} (changed : A → B) where
  pub map_through : (f : B → C) (g : A → C) → ((x : A) → f (changed x) ≡ g x) → (xs : List A)
      → map f (map changed xs) ≡ map g xs
  map_through f g same [] = refl
  map_through f g same (x ∷ xs) = let rest = map_through f g same xs in λ i. same x i ∷ rest i

  pub flat_through : (f : B → List C) (g : A → List C) → ((x : A) → f (changed x) ≡ g x) → (xs : List A)
      → flat_map f (map changed xs) ≡ flat_map g xs
  flat_through f g same [] = refl
  flat_through f g same (x ∷ xs) = let rest = flat_through f g same xs in λ i. same x i ++ rest i

module _ {A B : Type 0} (changed : A → B) where
  pub all_through : (f : B → Bool) (g : A → Bool) → ((x : A) → f (changed x) ≡ g x) → (xs : List A)
      → list_all f (map changed xs) ≡ list_all g xs
  all_through f g same [] = refl
  all_through f g same (x ∷ xs) = let rest = all_through f g same xs in λ i. same x i && rest i

  pub numbered_through : (xs : List A) (number : ℕ)
      → numbered (map changed xs) number ≡ option_map changed (numbered xs number)
  numbered_through xs zero = refl
  numbered_through xs (suc number) = slice_get-map changed xs number
