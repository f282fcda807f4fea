-- Seats in joint answers further up.
use Rattle.std.specs.Prelude.{ℕ, Bool, false, nat_lt, Option, Some, None}

-- a seat in a joint answer further up than the one of this number
abbrev pub is_above : ℕ → Option (ℕ × ℕ) → Bool
is_above joint (Some seat) = nat_lt seat.0 joint
is_above joint None = false
