-- Epochs that turn by the names of the tables that are drained, in a text.
use Rattle.std.specs.Prelude.{◌≡◌, ◌⊎◌, ◌+◌, ◌<◌, ◌^◌, ◌&&◌, ◌==◌, ℕ, Bool, true, false, is_some, List, [], ◌∷◌}
use Rattle.std.specs.Prelude.{if◌then◌else◌}
use Rattle.std.specs.List.{filter, list_all}
use Rattle.ent_room.specs.Passed.{IsAtRest, IsRenewed, begun, carried_over, rows_together}
use Rattle.ent_protocol.specs.Lookup.{present_rows}
use Rattle.ent_room.specs.Room.{IsBookOf, Room}
use Rattle.ent_tree.specs.declared.limits.TheConstants.{MOST_OPENING_ROWS}
use Rattle.ent_value.specs.Name.{is_word}
use Rattle.ent_room_calls.specs.declared.fault.RoomFault.{RoomFault}
use Rattle.ent_room_calls.specs.declared.fault.RoomFault.TheVariants.{Memory, Input, Faulty, Full, Value, NoName}
use Rattle.ent_room_calls.specs.declared.fault.RoomFault.TheVariants.{Used, Absent, Busy, TooManyRows, NoNumber}
use Rattle.ent_room_calls.specs.declared.fault.RoomFault.TheVariants.{NotARow, TooManyValues}

abbrev pub is_space : ℕ → Bool
is_space byte = byte == 32

-- a byte before the first piece
abbrev pub onto : ℕ → List (List ℕ) → List (List ℕ)
onto byte [] = (byte ∷ []) ∷ []
onto byte (piece ∷ more) = (byte ∷ piece) ∷ more

-- what stands between the spaces of a text, empty pieces too
abbrev pub pieces : List ℕ → List (List ℕ)
pieces [] = [] ∷ []
pieces (byte ∷ rest) = if is_space byte then [] ∷ pieces rest else onto byte (pieces rest)

abbrev pub has_bytes : List ℕ → Bool
has_bytes [] = false
has_bytes (byte ∷ rest) = true

-- the words of a text, which spaces separate
abbrev pub words : List ℕ → List (List ℕ)
words text = filter has_bytes (pieces text)

-- one of the room's tables has this name
abbrev pub is_table : Room → List ℕ → Bool
is_table room name = is_word name && is_some (present_rows room.admission.epoch.core name)

abbrev pub are_tables : Room → List ℕ → Bool
are_tables room text = list_all (is_table room) (words text)

-- the epoch ends, and its book is kept; the next one begins over its tables, of which those are empty whose names stand
-- in the text; who waits goes on waiting, and the groups are kept
abbrev pub Turns : List ℕ → Room → Room → Type 0
Turns text old new =
    (are_tables old text ≡ true) × IsAtRest old.admission × IsBookOf old.admission.epoch new.last
    × (new.admission.epoch ≡ begun (old.admission.epoch.number + 1) new.admission.epoch.core.opening)
    × IsRenewed old.admission.epoch.core.opening.tables (carried_over (words text) old.admission.epoch.core)
    new.admission.epoch.core.opening
    × (new.admission.list ≡ old.admission.list) × (new.admission.coming ≡ old.admission.coming)
    × (new.admission.feed ≡ old.admission.feed)

-- why it doesn't turn
abbrev pub IsNotTurned : List ℕ → Room → RoomFault → Type 0
IsNotTurned text room Memory = Unit {0}
IsNotTurned text room Absent = are_tables room text ≡ false
IsNotTurned text room Busy = ¬ IsAtRest room.admission
IsNotTurned text room TooManyRows =
    MOST_OPENING_ROWS < rows_together room.admission.epoch.core.opening.tables
    (carried_over (words text) room.admission.epoch.core)
IsNotTurned text room NoNumber = room.admission.epoch.number + 1 ≡ 2 ^ 64
IsNotTurned text room (Input fault) = ⊥
IsNotTurned text room (Faulty fault) = ⊥
IsNotTurned text room Full = ⊥
IsNotTurned text room (Value fault) = ⊥
IsNotTurned text room NoName = ⊥
IsNotTurned text room Used = ⊥
IsNotTurned text room (NotARow fault) = ⊥
IsNotTurned text room TooManyValues = ⊥
