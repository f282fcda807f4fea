-- Lists of which one element of the front goes to its end.
use Rattle.std.proofs.Common.{◌≡◌, ◌≢◌, ℕ, ◌+◌, ◌-◌, ◌<◌, ◌≤◌, ◌==◌, Bool, true, false, ◌||◌, List, [], ◌∷◌}
use Rattle.std.proofs.Common.{length, map, take, drop, set, swap, slice_get, get_or, Some, refl, sym, ap, ◌∙◌, inl}
use Rattle.std.proofs.Common.{inr, arith, true≢false}
use Rattle.std.proofs.lemmas.List.{drop-set-lt, drop_more, take-append-drop, length-drop, get_or-drop}
use Rattle.std.proofs.lemmas.List.Edits.{length-swap, swap_is, swapped_from_swap}
use Rattle.std.proofs.lemmas.List.Folds.{list_any_at, list_any-append}
use Rattle.std.proofs.lemmas.Option.{get_or_from_slice_get, slice_get_within}
use Rattle.std.proofs.lemmas.Bool.{cases_lt}
use Rattle.std.specs.List.{list_any}

module _ {X : Type 0} where
  -- what lies behind the last before r, where one before r takes its place
  pub drop-swap : (xs : List X) (i r : ℕ) (x : X) → slice_get xs i ≡ Some x → i < r → r ≤ length xs
      → drop (r - 1) (swap xs i (r - 1)) ≡ x ∷ drop r xs
  drop-swap xs i r x at less le =
      let last : ℕ = r - 1 in
      let within : last < length xs = omega (arith, less, le) in
      let next : last + 1 ≡ r = omega (arith, less) in
      let placed = swapped_from_swap xs (swap xs i last) i last x (omega (arith, less, le)) within refl in
      let first : get_or (swap xs i last) last x ≡ x = placed.1 ∙ get_or_from_slice_get xs i x x at in
      let written : List X = set xs i (get_or xs last x) in
      let rest : drop (last + 1) (swap xs i last) ≡ drop (last + 1) xs =
      ap (drop (last + 1)) (sym (swap_is xs i last x (omega (arith, less, le)) within))
      ∙ drop-set-lt (last + 1) written last (get_or xs i x) (omega arith)
      ∙ drop-set-lt (last + 1) xs i (get_or xs last x) (omega (arith, less)) in
      drop_more (swap xs i last) last x (omega (arith, within, length-swap xs i last))
      ∙ (λ k. first k ∷ rest k)
      ∙ ap (λ (n : ℕ). x ∷ drop n xs) next

  -- one that isn't behind r is before it
  pub before : (p : X → Bool) (xs : List X) (i r : ℕ) (x : X) → slice_get xs i ≡ Some x → p x ≡ true
      → list_any p (drop r xs) ≡ false → i < r
  before p xs i r x at passes none =
      elim (cases_lt i r) [
        | inl less ↦ less
        | inr le ↦
            let within : i < length xs = slice_get_within xs i x at in
            let e : r + (i - r) ≡ i = omega arith in
            let same : get_or (drop r xs) (i - r) x ≡ x =
            get_or-drop r xs (i - r) x ∙ ap (λ k. get_or xs k x) e ∙ get_or_from_slice_get xs i x x at in
            absurd (true≢false
            (sym (list_any_at p (drop r xs) (i - r) x (omega (arith, length-drop r xs)) (ap p same ∙ passes)) ∙ none))
      ]

pub or_no : (a b : Bool) → (a || b) ≡ false → (a ≡ false) × (b ≡ false)
or_no true b h = absurd (true≢false h)
or_no false b h = (refl, h)

module _ {X Y : Type 0} where
  pub list_any-map : (f : X → Y) (p : Y → Bool) (xs : List X) → list_any p (map f xs) ≡ list_any (λ x. p (f x)) xs
  list_any-map f p [] = refl
  list_any-map f p (x ∷ xs) = ap (λ b. p (f x) || b) (list_any-map f p xs)

pub differ : (k n : ℕ) → (k == n) ≡ false → k ≢ n
differ k n h = grind (arith, h)

module _ {Y : Type 0} where
  -- functions that agree but at a number agree on lists that lack it
  pub map_agree : (n : ℕ) (f g : ℕ → Y) → ((k : ℕ) → k ≢ n → f k ≡ g k)
      → (ks : List ℕ) → list_any (λ k. k == n) ks ≡ false → map f ks ≡ map g ks
  map_agree n f g same [] none = refl
  map_agree n f g same (k ∷ ks) none =
      let both = or_no (k == n) (list_any (λ k. k == n) ks) none in
      λ i. same k (differ k n both.0) i ∷ map_agree n f g same ks both.1 i

-- a list without a number lacks it behind any place
pub none_behind : {X : Type 0} (p : X → Bool) (xs : List X) (r : ℕ) → list_any p xs ≡ false
    → list_any p (drop r xs) ≡ false
none_behind p xs r none =
    (or_no (list_any p (take r xs)) (list_any p (drop r xs))
    (sym (list_any-append p (take r xs) (drop r xs)) ∙ ap (list_any p) (take-append-drop r xs) ∙ none)).1
