-- The least number of which something holds of one of a list.
use Rattle.std.proofs.Common.{◌≡◌, ◌⊎◌, inl, inr, ℕ, ◌+◌, ◌<◌, ◌≤◌, List, [], ◌∷◌, ◌++◌, length, take, get_or}
use Rattle.std.proofs.Common.{Option, None, sym, ap, subst, ◌∙◌}
use Rattle.std.specs.Prelude.{Contains}
use Rattle.std.proofs.lemmas.List.{take_all, take_more}
use Rattle.std.proofs.lemmas.List.Elements.{Contains-append_left, Contains-push, Contains-push_cases}
use Rattle.ent_lock.specs.Holders.{lesser}
use Rattle.ent_lock.specs.Use.{IsLeastIfAny}
use Rattle.ent_run.proofs.LeastOf.{least_either, least_same}
use Rattle.ent_run.proofs.Lists.{contains_none}

module _ {X : Type 0} (P : X → ℕ → Type 0) where
  -- it holds of one of a list, and a number
  abbrev pub HoldsIn : List X → ℕ → Type 0
  HoldsIn xs n = (x : X) × Contains xs x × P x n

  pub least_nil : IsLeastIfAny (HoldsIn []) None
  least_nil n h = contains_none h.0 h.1

  least_push : (xs : List X) (x : X) (a b : Option ℕ) → IsLeastIfAny (HoldsIn xs) a → IsLeastIfAny (P x) b
      → IsLeastIfAny (HoldsIn (xs ++ x ∷ [])) (lesser a b)
  least_push xs x a b so_far own =
      least_same (λ n. HoldsIn xs n ⊎ P x n) (HoldsIn (xs ++ x ∷ [])) (lesser a b) into from
      (least_either (HoldsIn xs) (P x) a b so_far own)
    where
      into : (n : ℕ) → HoldsIn xs n ⊎ P x n → HoldsIn (xs ++ x ∷ []) n
      into n (inl (y, there, holds)) = (y, Contains-append_left xs (x ∷ []) y there, holds)
      into n (inr holds) = (x, Contains-push xs x, holds)

      from : (n : ℕ) → HoldsIn (xs ++ x ∷ []) n → HoldsIn xs n ⊎ P x n
      from n (y, there, holds) =
          elim (Contains-push_cases xs x y there) [
            | inl before ↦ inl (y, before, holds)
            | inr same ↦ inr (subst (λ (z : X). P z n) (sym same) holds)
          ]

  -- of the first ones, and of one more
  pub least_more : (xs : List X) (n : ℕ) (x : X) (a b : Option ℕ) → n < length xs → x ≡ get_or xs n x
      → IsLeastIfAny (HoldsIn (take n xs)) a → IsLeastIfAny (P x) b
      → IsLeastIfAny (HoldsIn (take (n + 1) xs)) (lesser a b)
  least_more xs n x a b below is so_far own =
      let more : take (n + 1) xs ≡ take n xs ++ x ∷ [] =
      take_more xs n x below ∙ ap (λ (y : X). take n xs ++ y ∷ []) (sym is) in
      subst (λ (ys : List X). IsLeastIfAny (HoldsIn ys) (lesser a b)) (sym more)
      (least_push (take n xs) x a b so_far own)

  -- of all
  pub least_whole : (xs : List X) (n : ℕ) (a : Option ℕ) → length xs ≤ n → IsLeastIfAny (HoldsIn (take n xs)) a
      → IsLeastIfAny (HoldsIn xs) a
  least_whole xs n a gone least = subst (λ (ys : List X). IsLeastIfAny (HoldsIn ys) a) (take_all n xs gone) least
