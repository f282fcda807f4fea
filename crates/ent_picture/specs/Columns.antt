-- The numbers of the events that have a column.
use Rattle.std.specs.Prelude.{◌≡◌, ◌<◌, ◌≤◌, ℕ, List, Bool, false, length, slice_index}

-- none is above the present event's number
abbrev pub AreSoFar : List ℕ → ℕ → Type 0
AreSoFar numbers event = (k : ℕ) → k < length numbers → slice_index numbers k ≤ event

-- the present event's own isn't there where it has no column
abbrev pub AreBefore : List ℕ → ℕ → Bool → Type 0
AreBefore numbers event is_shown = is_shown ≡ false → (k : ℕ) → k < length numbers → slice_index numbers k < event
