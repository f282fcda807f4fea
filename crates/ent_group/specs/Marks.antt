-- Rows of up to 64 marks, each row the bits of a number.
use Rattle.std.specs.Prelude.{ℕ, ◌==◌, Bool, if◌then◌else◌, List, IsTrue, slice_index}
use Rattle.std.specs.Int.{bit_at}
use Rattle.std.specs.Int.RustNames.{bit_or}

-- a row has a mark at a place
unfoldable pub has_mark : ℕ → ℕ → Bool
has_mark row at = bit_at row at == 1

-- the row at one place has a mark at another
abbrev pub IsMarked : List ℕ → ℕ → ℕ → Type 0
IsMarked rows i j = IsTrue (has_mark (slice_index rows i) j)

-- a row that has a mark at a place gets those of another row too
abbrev pub joined : ℕ → ℕ → ℕ → ℕ
joined middle beyond row = if has_mark row middle then bit_or row beyond else row
