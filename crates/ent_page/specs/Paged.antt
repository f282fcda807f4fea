-- Keys that stand in pages.
use Rattle.std.specs.Prelude.{◌≡◌, ℕ, List, [], ◌∷◌, ◌++◌, ◌<◌, ◌≤◌, length, drop}
use Rattle.std.specs.List.{AllByRecursion, flat_map}
use Rattle.std.specs.List.Sorted.{IsStrictlySortedBy}
use Rattle.std.specs.declared.cmp.Ordering.TheVariants.{Less}
use Rattle.ent_page.specs.Key.{key_cmp}
use Rattle.ent_page.specs.declared.pages.TheConstants.{PAGE_LIMIT}

-- a page has some keys, and not too many
abbrev pub IsSized : List (List ℕ) → Type 0
IsSized page = (0 < length page) × (length page ≤ PAGE_LIMIT)

-- each key is below this one
abbrev pub AllBelow : List (List ℕ) → List ℕ → Type 0
AllBelow keys key = AllByRecursion (λ k. key_cmp k key ≡ Less) keys

-- each key is above this one
abbrev pub AllAbove : List (List ℕ) → List ℕ → Type 0
AllAbove keys key = AllByRecursion (λ k. key_cmp key k ≡ Less) keys

-- each page of a list has its size, and a page that is being filled is not too large
abbrev pub AreSized : {X : Type 0} → (X → List (List ℕ)) → List X → List (List ℕ) → Type 0
AreSized keys_of pages page = AllByRecursion (λ p. IsSized (keys_of p)) pages × (length page ≤ PAGE_LIMIT)

-- each page of a list has its size, and its keys are these: each below the next, and this many
pub record IsPaged {X : Type 0} (keys_of : X → List (List ℕ)) (pages : List X) (keys : List (List ℕ))
    (len : ℕ) : Type 0 where
  pub sized : AllByRecursion (λ page. IsSized (keys_of page)) pages
  pub sorted : IsStrictlySortedBy key_cmp keys
  pub count : len ≡ length keys

-- the keys of pages from an index of the first page on
abbrev pub keys_left : {X : Type 0} → (X → List (List ℕ)) → List X → ℕ → List (List ℕ)
keys_left keys_of [] index = []
keys_left keys_of (page ∷ pages) index = drop index (keys_of page) ++ flat_map keys_of pages
