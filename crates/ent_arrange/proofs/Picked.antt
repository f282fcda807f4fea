-- Elements that are picked by index.
use Rattle.std.proofs.Common.{◌≡◌, ℕ, ◌+◌, ◌<◌, List, [], ◌∷◌, ◌++◌, map, take, length, get_or, Option, Some, None}
use Rattle.std.proofs.Common.{zero, suc, slice_get, ap, sym, ◌∙◌, refl, subst, arith}
use Rattle.std.specs.Option.{option_map}
use Rattle.std.specs.List.{range_with_len}
use Rattle.std.specs.List.Sorted.{IsPermutation}
use Rattle.std.proofs.lemmas.List.{length-map, map_more, map_push}
use Rattle.std.proofs.lemmas.List.FromFn.{fill_by_all}
use Rattle.std.proofs.lemmas.List.Sorted.{IsPermutation-map}
use Rattle.std.proofs.lemmas.Option.{slice_get-map}
use Rattle.ent_arrange.specs.Arranged.{ArePicked}

module _ {X Y : Type 0} (f : Y → X) (xs : List Y) where
  -- one index more, and the element there
  pub picked_more : (indices : List ℕ) (ys : List Y) (i : ℕ) (x y : Y) → i < length indices → i < length ys
      → slice_get xs (get_or indices i 0) ≡ Some x → get_or ys i y ≡ y → f x ≡ f y
      → ArePicked (map f xs) (take i indices) (map f (take i ys))
      → ArePicked (map f xs) (take (i + 1) indices) (map f (take (i + 1) ys))
  picked_more indices ys i x y low short at stands alike before =
      ap (map Some) (map_more f ys i y short)
      ∙ map_push Some (map f (take i ys)) (f (get_or ys i y))
      ∙ ap (λ (o : Option X). map Some (map f (take i ys)) ++ o ∷ []) now
      ∙ ap (λ (os : List (Option X)). os ++ slice_get (map f xs) (get_or indices i 0) ∷ []) before
      ∙ sym (map_more (slice_get (map f xs)) indices i 0 low)
    where
      now : Some (f (get_or ys i y)) ≡ slice_get (map f xs) (get_or indices i 0)
      now = ap (λ (z : Y). Some (f z)) stands ∙ ap Some (sym alike)
          ∙ sym (slice_get-map f xs (get_or indices i 0) ∙ ap (option_map f) at)

module _ {X : Type 0} where
  got : (xs : List X) (k : ℕ) → k < length xs → get_or (map Some xs) k None ≡ slice_get xs k
  got [] k low = absurd (omega arith)
  got (x ∷ xs) zero low = refl
  got (x ∷ xs) (suc k) low = got xs k (omega arith)

  -- all elements in order
  all_picked : (xs : List X) → map Some xs ≡ map (slice_get xs) (range_with_len 0 (length xs))
  all_picked xs =
      fill_by_all (slice_get xs) (map Some xs) (length xs) None (length-map xs Some) (λ k low. got xs k low)

  abbrev back : X → Option X → X
  back nothing None = nothing
  back nothing (Some x) = x

  there_and_back : (nothing : X) (xs : List X) → map (back nothing) (map Some xs) ≡ xs
  there_and_back nothing [] = refl
  there_and_back nothing (x ∷ xs) = ap (λ (rest : List X). x ∷ rest) (there_and_back nothing xs)

  -- who picks each index once changes the order alone
  pub picked_permutes : X → (xs : List X) (indices : List ℕ) (ys : List X)
      → IsPermutation (range_with_len 0 (length xs)) indices → ArePicked xs indices ys → IsPermutation xs ys
  picked_permutes nothing xs indices ys once picked =
      subst (λ (zs : List X). IsPermutation xs zs) (there_and_back nothing ys)
      (subst (λ (zs : List X). IsPermutation zs (map (back nothing) (map Some ys))) (there_and_back nothing xs)
      (IsPermutation-map (back nothing) (map Some xs) (map Some ys) some))
    where
      some : IsPermutation (map Some xs) (map Some ys)
      some = subst (λ (zs : List (Option X)). IsPermutation (map Some xs) zs) (sym picked)
          (subst (λ (zs : List (Option X)). IsPermutation zs (map (slice_get xs) indices)) (sym (all_picked xs))
          (IsPermutation-map (slice_get xs) (range_with_len 0 (length xs)) indices once))
