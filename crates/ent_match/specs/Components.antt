-- Components by their places.
use Rattle.std.specs.Prelude.{◌≡◌, ◌<◌, ◌≤◌, ◌⊎◌, ◌==◌, ℕ, Bool, true, false, List, [], ◌∷◌, length, map, AllPairs}
use Rattle.std.specs.Prelude.{Contains, Option, Some, None, slice_index_or}
use Rattle.ent_semantics.specs.Component.{IsComponent, IsInRemainder, AreJoined}
use Rattle.ent_semantics.specs.Pool.{Posted, first_tx}
use Rattle.ent_match.specs.Fault.{IsByNumber}
use Rattle.ent_match.specs.declared.link.Link.{Link}
use Rattle.ent_match.specs.Links.{IsMarked}
use Rattle.ent_match.specs.Remainder.{At}

abbrev pub flipped : Link → Link
flipped link = record { from = link.to; to = link.from }

-- a link between statements that remain
abbrev pub IsKept : List Link → List Bool → Link → Type 0
IsKept links removed link = Contains links link × (slice_index_or removed link.to false ≡ false)

-- such links, both ways
pub record AreJoinsOf (links : List Link) (removed : List Bool) (joins : List Link) : Type 0 where
  pub sound : (join : Link) → Contains joins join → IsKept links removed join ⊎ IsKept links removed (flipped join)
  pub there : (link : Link) → IsKept links removed link → Contains joins link
  pub back : (link : Link) → IsKept links removed link → Contains joins (flipped link)

abbrev pub both_ways : Bool → Link → List Link → List Link
both_ways true link joins = joins
both_ways false link joins = link ∷ flipped link ∷ joins

-- the links that don't lead to a removed place, both ways
abbrev pub joins_of : List Link → List Bool → List Link
joins_of [] removed = []
joins_of (link ∷ links) removed = both_ways (slice_index_or removed link.to false) link (joins_of links removed)

-- the statements at marked places
abbrev pub marked_in : List Bool → List Posted → List Posted
marked_in [] pool = []
marked_in (b ∷ marks) [] = []
marked_in (true ∷ marks) (member ∷ pool) = member ∷ marked_in marks pool
marked_in (false ∷ marks) (member ∷ pool) = marked_in marks pool

-- what joins say of a pool
pub record AreLinkedBy (pool : List Posted) (joins : List Link) (removed : List Bool) : Type 0 where
  pub by_number : IsByNumber pool
  pub room : length removed ≡ length pool
  pub remain : (place : ℕ) (member : Posted) → At pool place member → slice_index_or removed place false ≡ false
      → IsInRemainder pool member
  pub gone : (place : ℕ) (member : Posted) → At pool place member → IsMarked removed place
      → IsInRemainder pool member → ⊥
  pub joined : (join : Link) (a b : Posted) → Contains joins join → At pool join.from a → At pool join.to b
      → AreJoined a b × (slice_index_or removed join.from false ≡ false) ×
      (slice_index_or removed join.to false ≡ false)
  pub within : (join : Link) → Contains joins join → (join.from < length pool) × (join.to < length pool)
  pub complete : (p q : ℕ) (a b : Posted) → At pool p a → At pool q b → AreJoined a b
      → slice_index_or removed p false ≡ false → slice_index_or removed q false ≡ false
      → Contains joins (record { from = p; to = q })

-- whether a component begins at a place, where the first statement of this component stands at another
abbrev pub begins_at : ℕ → Option ℕ → Bool
begins_at place (Some first) = first == place
begins_at place None = false

-- the statements of the component that begins at a place
abbrev pub component_at : List (Option ℕ) → ℕ → List Posted → List Posted
component_at firsts place pool = marked_in (map (begins_at place) firsts) pool

-- the first statement of the component of the one at a place stands at another
abbrev pub FirstIs : List (Option ℕ) → ℕ → ℕ → Type 0
FirstIs firsts place first = slice_index_or firsts place None ≡ Some first

-- of each statement the place of the first one of its component, where it is in one
pub record AreFirstPlaces (pool : List Posted) (firsts : List (Option ℕ)) : Type 0 where
  pub room : length firsts ≡ length pool
  pub first : (place first : ℕ) → FirstIs firsts place first → (first ≤ place) × FirstIs firsts first first
  pub exact : (place : ℕ) → FirstIs firsts place place → IsComponent pool (component_at firsts place pool)
  pub begins : (place : ℕ) (member : Posted) → FirstIs firsts place place → At pool place member
      → first_tx (component_at firsts place pool) ≡ member.tx
  pub covers : (place : ℕ) (member : Posted) → At pool place member → IsInRemainder pool member
      → (first : ℕ) × FirstIs firsts place first × Contains (component_at firsts first pool) member

-- each list is a component, and each statement of the remainder is in one
pub record AreComponents (pool : List Posted) (lists : List (List Posted)) : Type 0 where
  pub exact : (list : List Posted) → Contains lists list → IsComponent pool list
  pub covers : (member : Posted) → IsInRemainder pool member
      → (list : List Posted) × Contains lists list × Contains list member

-- the lists stand in the order of the transactions of their first statements
abbrev pub AscendByFirst : List (List Posted) → Type 0
AscendByFirst lists = AllPairs (λ (one other : List Posted). first_tx one < first_tx other) lists
