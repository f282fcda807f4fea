-- How many steps of progress a run may still make.
use Rattle.std.specs.Prelude.{◌≤◌, ℕ, ◌+◌, ◌-◌, ◌*◌, suc, pred, List, length, Contains, sum_by}
use Rattle.std.specs.Prelude.{Option, Some, None, if◌then◌else◌}
use Rattle.ent_semantics.specs.Serial.{numbered}
use Rattle.ent_semantics.specs.Pool.{Posted}
use Rattle.ent_protocol.specs.PoolEvents.{IsPresentComponent}
use Rattle.ent_protocol.specs.State.{State, Submitted, Member, members}

-- ---- statements

-- the statements of a script behind the first so many, and its end, COMMIT or ROLLBACK
abbrev pub statements_behind : ℕ → Option Submitted → ℕ
statements_behind n None = 0
statements_behind n (Some own) = suc (length own.form - n)

-- a member has begun the statements before its place, and the one at its place where that is posted
abbrev pub begun : Member → ℕ
begun member = if member.posted then member.place else pred member.place

abbrev pub unbegun_of : List Submitted → Member → ℕ
unbegun_of submitted member = statements_behind (begun member) (numbered submitted member.tx)

-- what the members that aren't prepared have not begun yet
abbrev pub unbegun : State → ℕ
unbegun s = sum_by (unbegun_of s.submitted) s.active

-- all statements of the members' scripts, the ends counted
abbrev pub statements_in_run : State → ℕ
statements_in_run s = sum_by (λ member. statements_behind 0 (numbered s.submitted member.tx)) (members s)

-- ---- components

-- one of some transactions has a statement among these
pub record HasOneOf (transactions : List ℕ) (asked : List Posted) : Type 0 where
  pub query : Posted
  pub is_in : Contains asked query
  pub is_of : Contains transactions query.tx

-- each component that wasn't tried has a statement of one of these transactions
abbrev pub HitUntried : State → List ℕ → Type 0
HitUntried s transactions =
    (asked : List Posted) → IsPresentComponent s asked → (Contains s.tried asked → ⊥) → HasOneOf transactions asked

-- ---- what is left

-- At most `left` steps of progress are left to a run, of at most `most` members. A statement that isn't begun counts
-- twice, since a component may come with it that has to be tried. Each of some transactions counts once, of which one
-- has a statement in each untried component. A member counts `most` times, since when it leaves the components of the
-- others may have to be tried again.
pub record IsWithin (most left : ℕ) (s : State) : Type 0 where
  pub few : length (members s) ≤ most
  pub transactions : List ℕ
  pub hit : HitUntried s transactions
  pub within : 2 * unbegun s + length transactions + most * length (members s) ≤ left

-- fewer than so many are left
pub record IsBelow (most left : ℕ) (s : State) : Type 0 where
  pub less : ℕ
  pub below : suc less ≤ left
  pub within : IsWithin most less s
