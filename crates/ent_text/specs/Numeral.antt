-- A written number with a minus sign.
use Rattle.std.specs.Prelude.{ℕ, zero, suc, ℤ, pos, negsuc}

-- minus 0 is 0
abbrev pub negative_of : ℕ → ℤ
negative_of zero = pos 0
negative_of (suc n) = negsuc n
