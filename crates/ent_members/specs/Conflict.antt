-- Uses that are asked for and uses that are held, in conflict.
use Rattle.std.specs.Prelude.{◌≡◌, ℕ, true, false, List, Contains}
use Rattle.ent_lock.specs.declared.holders.Holder.{Holder}
use Rattle.ent_lock.specs.declared.mode.Mode.{Mode}
use Rattle.ent_lock.specs.Mode.{in_conflict}
use Rattle.ent_members.specs.declared.conflict.Conflict.{Conflict}
use Rattle.ent_protocol.specs.State.{Use}
use Rattle.ent_protocol.specs.Uses.{uses_conflict}

abbrev pub NoneInConflict : Use → List Use → Type 0
NoneInConflict own held = (other : Use) → Contains held other → uses_conflict own other ≡ false

-- a transaction is among the holders of a table in a mode that is in conflict with one that is asked for
abbrev pub IsHeldAgainst : List Holder → ℕ → Mode → Mode → Type 0
IsHeldAgainst holders tx asked held =
    (in_conflict asked held ≡ true) × Contains holders (record { holder = tx; mode = held })

abbrev pub NoneHeldAgainst : List Holder → ℕ → Mode → Type 0
NoneHeldAgainst holders tx asked = (held : Mode) → ¬ IsHeldAgainst holders tx asked held

-- no use that is asked for is in conflict with one that is held
abbrev pub NoConflict : List Use → List Use → Type 0
NoConflict asked held = (own : Use) → Contains asked own → NoneInConflict own held

-- the table is asked for in the one mode, and held in the other, which are in conflict
pub record IsConflict (asked held : List Use) (between : Conflict) : Type 0 where
  pub is_asked : Contains asked (record { table = between.table; mode = between.asked })
  pub is_held : Contains held (record { table = between.table; mode = between.held })
  pub clash : in_conflict between.asked between.held ≡ true
