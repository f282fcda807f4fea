-- Links between places, and marks that go along them.
use Rattle.std.specs.Prelude.{◌≡◌, ◌<◌, ℕ, zero, suc, Bool, true, false, List, [], ◌∷◌, length, Contains}
use Rattle.std.specs.Prelude.{slice_index_or}
use Rattle.ent_match.specs.declared.link.Link.{Link}

abbrev pub IsMarked : List Bool → ℕ → Type 0
IsMarked marks place = slice_index_or marks place false ≡ true

-- links between places below a number
abbrev pub AreWithin : List Link → ℕ → Type 0
AreWithin links room = (link : Link) → Contains links link → (link.from < room) × (link.to < room)

-- from one place to another in a number of links
abbrev pub PathIn : List Link → ℕ → ℕ → ℕ → Type 0
PathIn links zero first last = first ≡ last
PathIn links (suc n) first last =
    (link : Link) × Contains links link × (link.to ≡ last) × PathIn links n first link.from

-- links lead to a place from a marked one
pub record IsReached (links : List Link) (marks : List Bool) (place : ℕ) : Type 0 where
  pub first : ℕ
  pub marked : IsMarked marks first
  pub steps : ℕ
  pub path : PathIn links steps first place

-- further places are marked, to which links lead
pub record Grows (links : List Link) (old new : List Bool) : Type 0 where
  pub room : length new ≡ length old
  pub kept : (place : ℕ) → IsMarked old place → IsMarked new place
  pub reached : (place : ℕ) → IsMarked new place → IsReached links old place

-- no link leads from a marked place to another
abbrev pub Closed : List Link → List Bool → Type 0
Closed links marks = (link : Link) → Contains links link → IsMarked marks link.from → IsMarked marks link.to

-- exactly the places are marked to which links lead from marked ones
pub record Closes (links : List Link) (old new : List Bool) : Type 0 where
  pub grows : Grows links old new
  pub closed : Closed links new

-- how many places aren't marked
abbrev pub unmarked : List Bool → ℕ
unmarked [] = 0
unmarked (true ∷ marks) = unmarked marks
unmarked (false ∷ marks) = suc (unmarked marks)
