-- Statements of the pool, by their transactions.
use Rattle.std.specs.Prelude.{◌≡◌, ℕ, ◌==◌, Bool, not, List}
use Rattle.std.specs.List.{list_any}
use Rattle.ent_semantics.specs.Pool.{Posted}
use Rattle.ent_protocol.specs.Member.{pool}
use Rattle.ent_protocol.specs.State.{State, Submitted, Member}

-- a statement of none of some transactions
abbrev pub is_of_none : List ℕ → Posted → Bool
is_of_none numbers query = not (list_any (λ n. n == query.tx) numbers)

-- the pool of each state with these scripts and these members that aren't prepared
abbrev pub IsPoolOf : List Submitted → List Member → List Posted → Type 0
IsPoolOf submitted active posted = (s : State) → s.submitted ≡ submitted → s.active ≡ active → pool s ≡ posted
