-- Replies that are the same, or show other deadlocks that begin with the same transaction.
use Rattle.std.specs.Prelude.{◌≡◌, ◌⊎◌, ℕ, List, slice_index}
use Rattle.ent_protocol.specs.Event.{Broken, Busy, Cycle, Reply}

-- two cycles begin with the same transaction
abbrev pub BeginAlike : List ℕ → List ℕ → Type 0
BeginAlike cycle other = slice_index cycle 0 ≡ slice_index other 0

module _ {F : Type 0} where
  -- both tell that the same group is rolled back for a deadlock
  pub record BreakAlike (reply other : Reply F) : Type 0 where
    pub cycle : List ℕ
    pub another : List ℕ
    pub group : List ℕ
    pub begin_alike : BeginAlike cycle another
    pub is : reply ≡ Broken cycle group
    pub is_other : other ≡ Broken another group

  -- both tell that a deadlock is in conflict
  pub record WaitAlike (reply other : Reply F) : Type 0 where
    pub cycle : List ℕ
    pub another : List ℕ
    pub begin_alike : BeginAlike cycle another
    pub is : reply ≡ Busy (Cycle cycle)
    pub is_other : other ≡ Busy (Cycle another)

  abbrev pub AreAlike : Reply F → Reply F → Type 0
  AreAlike reply other = (reply ≡ other) ⊎ (BreakAlike reply other ⊎ WaitAlike reply other)
