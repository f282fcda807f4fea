-- Counts of steps.
use Rattle.std.specs.Prelude.{ℕ, ◌+◌, ◌-◌, ◌^◌, min}

-- a count that went up by a number of steps, or as far as it can
abbrev pub ticked : ℕ → ℕ → ℕ
ticked steps count = min (count + steps) (2 ^ 64 - 1)
