-- Transactions that wait for each other in a cycle. A waits-for relation is a list of pairs: who waits, and for whom.
use Rattle.std.specs.Prelude.{◌≢◌, ℕ, ◌<◌, ◌≤◌, List, [], ◌∷◌, ◌++◌, length, drop, map, All, AllPairs, Contains}
use Rattle.std.specs.List.{zip}

-- at most n numbers stand in the pairs: some list of at most n holds them all
abbrev pub NamesAtMost : ℕ → List (ℕ × ℕ) → Type 0
NamesAtMost n waits = (names : List ℕ) × (length names ≤ n) × All (λ p. Contains names p.0 × Contains names p.1) waits

-- those who wait
abbrev pub waiters_of : List (ℕ × ℕ) → List ℕ
waiters_of waits = map (λ p. p.0) waits

-- the pairs of each of a list with the next, and of the last with one given
abbrev pub links_to : List ℕ → ℕ → List (ℕ × ℕ)
links_to xs end = zip xs (drop 1 xs ++ end ∷ [])

-- the pairs of each of a list with the next, and of the last with the first
abbrev pub links : List ℕ → List (ℕ × ℕ)
links [] = []
links (x ∷ xs) = links_to (x ∷ xs) x

-- each waits for the next, and the last for the first: the pairs of them are all pairs of the relation
pub record Closes (waits : List (ℕ × ℕ)) (members : List ℕ) : Type 0 where
  pub not_empty : 0 < length members
  pub linked : All (Contains waits) (links members)

-- and none comes twice
pub record IsCycle (waits : List (ℕ × ℕ)) (members : List ℕ) : Type 0 where
  pub closes : Closes waits members
  pub distinct : AllPairs (λ x y. x ≢ y) members

-- a transaction stands in some cycle
abbrev pub IsOnCycle : List (ℕ × ℕ) → ℕ → Type 0
IsOnCycle waits x = (members : List ℕ) × Closes waits members × Contains members x
