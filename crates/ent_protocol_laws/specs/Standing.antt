-- Where the transactions of a state stand, and what every event keeps of it.
use Rattle.std.specs.Prelude.{◌≡◌, ◌≢◌, ◌≤◌, ◌↔◌, ℕ, List, ◌++◌, map, length, AllPairs, Contains}
use Rattle.ent_protocol.specs.State.{State, Submitted, members}

-- the transactions that are members, are dormant or have a fate
abbrev pub standing : State → List ℕ
standing s =
    map (λ member. member.tx) (members s)
    ++ (map (λ dormant. dormant.tx) s.dormant ++ map (λ fated. fated.tx) s.fates)

-- each transaction that was submitted stands in one of these places, and once, and no other stands there
pub record StandOnce (s : State) : Type 0 where
  pub distinct : AllPairs (λ (one other : ℕ). one ≢ other) (standing s)
  pub submitted : (tx : ℕ) → Contains (standing s) tx ↔ ((1 ≤ tx) × (tx ≤ length s.submitted))

-- the opening stays, and scripts are put at the end alone
pub record GoesOn (old new : State) : Type 0 where
  pub opening : new.opening ≡ old.opening
  pub more : List Submitted
  pub behind : new.submitted ≡ old.submitted ++ more
