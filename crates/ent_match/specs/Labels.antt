-- Labels of places, which go along joins: the least place from which joins lead to each.
use Rattle.std.specs.Prelude.{◌≡◌, ◌<◌, ◌≤◌, ◌⊎◌, ℕ, Bool, true, false, List, length, Contains, Option, Some, None}
use Rattle.std.specs.Prelude.{set, slice_index_or}
use Rattle.std.specs.List.{sum_by}
use Rattle.ent_match.specs.declared.link.Link.{Link}
use Rattle.ent_match.specs.Links.{PathIn}

abbrev pub label : List ℕ → ℕ → ℕ
label labels place = slice_index_or labels place 0

-- the sum of the labels
abbrev pub total : List ℕ → ℕ
total = sum_by (λ (own : ℕ). own)

-- a label of a place from which joins lead to another
pub record IsLabelFrom (joins : List Link) (labels : List ℕ) (place own : ℕ) : Type 0 where
  pub first : ℕ
  pub within : first < length labels
  pub steps : ℕ
  pub path : PathIn joins steps first place
  pub label_is : own ≡ label labels first

-- each place has got a label of one from which joins lead to it, and no greater one than it had
pub record Lowers (joins : List Link) (old new : List ℕ) : Type 0 where
  pub room : length new ≡ length old
  pub below : (place : ℕ) → label new place ≤ label old place
  pub reached : (place : ℕ) → place < length old → IsLabelFrom joins old place (label new place)

-- no join leads to a greater label
abbrev pub IsLevel : List Link → List ℕ → Type 0
IsLevel joins labels = (join : Link) → Contains joins join → label labels join.to ≤ label labels join.from

-- the label of one place goes to another, where it is less
pub record Goes (from to : ℕ) (old new : List ℕ) : Type 0 where
  pub less : label old from < label old to
  pub new_is : new ≡ set old to (label old from)

-- a link to a place that isn't removed takes the lesser label of its two places to the other
abbrev pub LevelsOne : Link → List Bool → List ℕ → List ℕ → Type 0
LevelsOne link removed old new =
    (slice_index_or removed link.to false ≡ false) × (Goes link.from link.to old new ⊎ Goes link.to link.from old new)

-- a link lets labels be: it leads to a removed place, or its places have one label
abbrev pub Stays : Link → List Bool → List ℕ → List ℕ → Type 0
Stays link removed old new =
    (new ≡ old) × (slice_index_or removed link.to false ≡ false → label old link.from ≡ label old link.to)

-- each of so many places is its own label
pub record AreOwnLabels (count : ℕ) (labels : List ℕ) : Type 0 where
  pub room : length labels ≡ count
  pub own : (place : ℕ) → place < count → label labels place ≡ place

-- what is shown of a place: its label, unless it is removed
abbrev pub shown : Bool → ℕ → Option ℕ
shown true own = None
shown false own = Some own

pub record AreShown (labels : List ℕ) (removed : List Bool) (firsts : List (Option ℕ)) : Type 0 where
  pub room : length firsts ≡ length labels
  pub each : (place : ℕ) → place < length labels
      → slice_index_or firsts place None ≡ shown (slice_index_or removed place false) (label labels place)
