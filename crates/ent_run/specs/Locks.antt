-- The lock table of a run: the uses of its members, and no other.
use Rattle.std.specs.Prelude.{◌≡◌, ◌⊎◌, ◌↔◌, ℕ, Bool, false, List, ◌++◌, map, Contains, nat_eq}
use Rattle.std.specs.List.{IsDistinct}
use Rattle.ent_lock.specs.declared.mode.Mode.{Mode}
use Rattle.ent_lock.specs.Use.{Uses, Holds, InConflictAt, key_of_number}
use Rattle.ent_members.specs.Order.{tx_of}
use Rattle.ent_run.specs.Run.{IsRun}
use Rattle.ent_protocol.specs.State.{Member, Use}

abbrev pub use_of : ℕ → Mode → Use
use_of table mode = record { table = table; mode = mode }

-- a use as the lock table takes it
abbrev pub lock_of : Use → ℕ × Mode
lock_of own = (own.table, own.mode)

-- a member of this number holds the use
abbrev pub IsHeld : List Member → ℕ → Use → Type 0
IsHeld members tx own = (member : Member) × Contains members member × (member.tx ≡ tx) × Contains member.uses own

-- the lock table has exactly the uses that members hold
abbrev pub AreLocked : Uses → List Member → Type 0
AreLocked locks members =
    (tx table : ℕ) (mode : Mode) → Holds locks tx (key_of_number table) mode ↔ IsHeld members tx (use_of table mode)

-- the members of a run, no two of one number, and a lock table that has their uses
pub record IsLockedRun (locks : Uses) (prepared active : List Member) : Type 0 where
  pub run : IsRun prepared active
  pub once : IsDistinct nat_eq (map tx_of prepared)
  pub apart : (tx : ℕ) → Contains (map tx_of prepared) tx → ¬ Contains (map tx_of active) tx
  pub locked : AreLocked locks (prepared ++ active)

-- a transaction holds these uses too
abbrev pub Locks : ℕ → List Use → Uses → Uses → Type 0
Locks tx asked old new =
    (v table : ℕ) (mode : Mode)
    → Holds new v (key_of_number table) mode
    ↔ (Holds old v (key_of_number table) mode ⊎ ((v ≡ tx) × Contains asked (use_of table mode)))

-- a transaction that isn't passed holds a use in conflict with one that is asked for
abbrev pub BlocksUses : Uses → List Use → (ℕ → Bool) → ℕ → Type 0
BlocksUses locks asked passes v =
    (passes v ≡ false) × ((own : Use) × Contains asked own × InConflictAt locks v (key_of_number own.table) own.mode)
