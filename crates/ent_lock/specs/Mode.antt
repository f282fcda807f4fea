-- How a table is used.
use Rattle.std.specs.Prelude.{ℕ, Bool, true, false}
use Rattle.ent_lock.specs.declared.mode.Mode.{Mode}
use Rattle.ent_lock.specs.declared.mode.Mode.TheVariants.{Shared, Exclusive}

-- two uses of one table are in conflict where one is exclusive
abbrev pub in_conflict : Mode → Mode → Bool
in_conflict Shared Shared = false
in_conflict Shared Exclusive = true
in_conflict Exclusive other = true

-- shared before exclusive
abbrev pub mode_rank : Mode → ℕ
mode_rank Shared = 0
mode_rank Exclusive = 1
