-- Parties behind references, and the demands of several parties.
use Rattle.std.proofs.Common.{◌≡◌, ◌<◌, ℕ, ◌+◌, Bool, true, false, cond, ◌||◌, List, [], ◌∷◌, ◌++◌, length, take, drop}
use Rattle.std.proofs.Common.{get_or, map}
use Rattle.std.proofs.Common.{Option, None, Some, IsSome, refl, sym, ap, ◌∙◌, ◌≤◌, count_by}
use Rattle.std.specs.Borrow.{Bor}
use Rattle.std.specs.List.{find, flat_map, list_any}
use Rattle.std.specs.Option.{is_some, option_copied, option_or}
use Rattle.std.proofs.lemmas.Grind.{flat_map-append}
use Rattle.std.proofs.lemmas.List.{append-nil, get_or-map, length-map, take-append-drop, take_all, take_more}
use Rattle.std.proofs.lemmas.List.Sums.{sum_by-append}
use Rattle.std.proofs.lemmas.List.Folds.{find-append, list_any-append, list_any_at, list_any_more}
use Rattle.std.proofs.lemmas.Bool.{or_from}
use Rattle.ent_lists.specs.Elements.{from_here, map_joined}

pub any_flat : {X Y : Type 0} (f : X → List Y) (p : Y → Bool) (xs : List X)
    → list_any p (flat_map f xs) ≡ list_any (λ x. list_any p (f x)) xs
any_flat f p [] = refl
any_flat f p (x ∷ xs) =
    list_any-append p (f x) (flat_map f xs) ∙ ap (λ (b : Bool). list_any p (f x) || b) (any_flat f p xs)

module _ {X Y : Type 0} (f : X → List Y) (p : Y → Bool) (xs : List X) (i : ℕ) (x : X) (low : i < length xs)
    (at : x ≡ get_or xs i x) where
  parts : flat_map f xs ≡ flat_map f (take i xs) ++ (f x ++ flat_map f (drop (i + 1) xs))
  parts =
      ap (flat_map f) (sym (take-append-drop i xs)) ∙ flat_map-append f (take i xs) (drop i xs)
      ∙ ap (λ (rest : List X). flat_map f (take i xs) ++ flat_map f rest) (from_here xs i x low at)

  front : flat_map f (take (i + 1) xs) ≡ flat_map f (take i xs) ++ f x
  front =
      ap (flat_map f) (take_more xs i x low) ∙ flat_map-append f (take i xs) (get_or xs i x ∷ [])
      ∙ ap (λ (y : X). flat_map f (take i xs) ++ flat_map f (y ∷ [])) (sym at)
      ∙ ap (λ (ys : List Y). flat_map f (take i xs) ++ ys) (append-nil (f x))

  pub count_more : count_by p (flat_map f (take (i + 1) xs)) ≡ count_by p (flat_map f (take i xs)) + count_by p (f x)
  count_more = ap (count_by p) front ∙ sum_by-append (λ y. cond (p y) 1 0) (flat_map f (take i xs)) (f x)

  -- one more list in which none is found
  pub find_none : find p (flat_map f (take i xs)) ≡ None → find p (f x) ≡ None
      → find p (flat_map f (take (i + 1) xs)) ≡ None
  find_none before none =
      ap (find p) front ∙ find-append p (flat_map f (take i xs)) (f x)
      ∙ ap (λ (o : Option Y). option_or o (find p (f x))) before ∙ none

  -- the first list in which one is found
  pub find_first : find p (flat_map f (take i xs)) ≡ None → IsSome (find p (f x)) → find p (flat_map f xs)
      ≡ find p (f x)
  find_first before some =
      ap (find p) parts ∙ find-append p (flat_map f (take i xs)) (f x ++ flat_map f (drop (i + 1) xs))
      ∙ ap (λ (o : Option Y). option_or o (find p (f x ++ flat_map f (drop (i + 1) xs)))) before
      ∙ find-append p (f x) (flat_map f (drop (i + 1) xs)) ∙ kept (find p (f x))
      (find p (flat_map f (drop (i + 1) xs))) some
    where
      kept : (o other : Option Y) → IsSome o → option_or o other ≡ o
      kept None other is = cc
      kept (Some y) other is = refl

-- what a reference leads to at a place
module _ {X : Type 0} (refs : List (Bor X)) (i : ℕ) (item : Bor X) (low : i < length refs)
    (is : item ≡ get_or refs i item) where
  pub seen_low : i < length (map (λ (x : Bor X). x.now) refs)
  seen_low = simp length-map low

  pub seen_at : item.now ≡ get_or (map (λ (x : Bor X). x.now) refs) i item.now
  seen_at = ap (λ (x : Bor X). x.now) is ∙ sym (get_or-map (λ (x : Bor X). x.now) refs i item item.now low)

  module _ (p : X → Bool) where
    pub any_off : list_any p (take i (map (λ (x : Bor X). x.now) refs)) ≡ false → p item.now ≡ false
        → list_any p (take (i + 1) (map (λ (x : Bor X). x.now) refs)) ≡ false
    any_off before off =
        list_any_more p (map (λ (x : Bor X). x.now) refs) i item.now seen_low
        ∙ ap (λ (x : X). list_any p (take i (map (λ (x : Bor X). x.now) refs)) || p x) (sym seen_at)
        ∙ or_from (list_any p (take i (map (λ (x : Bor X). x.now) refs))) (p item.now) before off

    pub any_on : p item.now ≡ true → list_any p (map (λ (x : Bor X). x.now) refs) ≡ true
    any_on on =
        list_any_at p (map (λ (x : Bor X). x.now) refs) i item.now seen_low (ap p (sym seen_at) ∙ on)

-- all of them
pub any_whole : {X : Type 0} (p : X → Bool) (refs : List (Bor X)) (n : ℕ) → length refs ≤ n
    → list_any p (take n (map (λ (x : Bor X). x.now) refs)) ≡ false
    → list_any p (map (λ (x : Bor X). x.now) refs) ≡ false
any_whole {X = X} p refs n all none =
    let long : length (map (λ (x : Bor X). x.now) refs) ≤ n = simp length-map all in
    ap (list_any p) (sym (take_all n (map (λ (x : Bor X). x.now) refs) long)) ∙ none

pub none_copied : {X : Type 0} (o : Option (Bor X)) → is_some o ≡ false → option_copied o ≡ None
none_copied None is = refl
none_copied (Some x) is = cc

-- one more reference
pub seen_more : {X : Type 0} (refs after : List (Bor X)) (item : Bor X) → after ≡ refs ++ item ∷ []
    → map (λ (x : Bor X). x.now) after ≡ map (λ (x : Bor X). x.now) refs ++ item.now ∷ []
seen_more {X} refs after item is =
    ap (map (λ (x : Bor X). x.now)) is ∙ map_joined (λ (x : Bor X). x.now) refs (item ∷ [])
