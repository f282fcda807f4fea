-- What is written of a meeting, and why there is none.
use Rattle.std.specs.Prelude.{◌≡◌, ◌||◌, ◌++◌, ◌∷◌, [], ℕ, Bool, true, false, List, Option, Some, Result, Ok, Err}
use Rattle.std.specs.Io.KnownBytes.{Appends, Keeps}
use Rattle.ent_value.specs.Watched.{Stream}
use Rattle.ent_admission.specs.Acts.{Advances}
use Rattle.ent_engine.specs.Reading.{IsRefused}
use Rattle.ent_engine.specs.declared.fault.RunFault.{RunFault}
use Rattle.ent_engine.specs.declared.fault.RunFault.TheVariants.{Input as OfInput, Check, Differs, Memory, ReadFault}
use Rattle.ent_engine.specs.declared.fault.RunFault.TheVariants.{WriteFault}
use Rattle.ent_print.specs.Write.{AppendsBeginning}
use Rattle.ent_room.specs.Passed.{IsAtRest}
use Rattle.ent_room.specs.Room.{IsBookOf, Room}
use Rattle.ent_room.specs.State.{AreResting}
use Rattle.ent_room.specs.declared.epoch_book.EpochBook.{EpochBook}
use Rattle.ent_meet.specs.Epochs.{AreOfBooks}
use Rattle.ent_meet.specs.Joints.{epoch_joints}
use Rattle.ent_meet.specs.Opening.{IsOpened}
use Rattle.ent_meet.specs.Text.{meeting_text}
use Rattle.ent_meet.specs.declared.epochs.EpochJoints.{EpochJoints}
use Rattle.ent_meet.specs.declared.fault.MeetFault.{MeetFault}
use Rattle.ent_meet.specs.declared.fault.MeetFault.TheVariants.{Run, TooManyRows}

-- Acts lead from one room to another, in which those who wait rest, no batch is on, and all that committed is told. The
-- joint answers are those of legal books of the epochs before the present one, which are counted from 1.
pub record Rests (first last : Room) (earlier : List EpochJoints) : Type 0 where
  pub advances : Advances first.admission last.admission
  pub resting : AreResting last.admission.list
  pub at_rest : IsAtRest last.admission
  pub books : AreOfBooks 1 earlier last.admission.epoch.number

-- The epoch ends: the room has its book, and the joint answers of that book come behind the others. Who waits, and what
-- is told, stays.
pub record Closes (old : Room) (earlier : List EpochJoints) (new : Room) (epochs : List EpochJoints) : Type 0 where
  pub last : EpochBook
  pub kept : new.last ≡ Some last
  pub book : IsBookOf old.admission.epoch new.last
  pub epochs_are : epochs ≡ earlier ++ epoch_joints last ∷ []
  pub list : new.admission.list ≡ old.admission.list
  pub feed : new.admission.feed ≡ old.admission.feed

-- The bytes are an input, in whose room its scripts wait at first; then all comes to rest, and the last epoch ends.
pub record Meets (bytes : List ℕ) (room : Room) (epochs : List EpochJoints) : Type 0 where
  pub first : Room
  pub opened : IsOpened bytes first
  pub resting : Room
  pub earlier : List EpochJoints
  pub rests : Rests first resting earlier
  pub closes : Closes resting earlier room epochs

-- the input that the bytes are met in the room, and the text is that of what came of it
abbrev pub IsMeeting : List ℕ → Room → List ℕ → Type 0
IsMeeting bytes room text =
    (epochs : List EpochJoints) × Meets bytes room epochs × (text ≡ meeting_text room epochs)

-- such a text was written
abbrev pub WritesMeeting : List ℕ → Room → Option (List ℕ) → Option (List ℕ) → Type 0
WritesMeeting bytes room old new = (text : List ℕ) × IsMeeting bytes room text × Appends old new text

-- Why a room comes to no end: memory ran out, or there are too many rows. No clause excludes that a script that was
-- printed isn't read again, that a step ends more than one epoch, or that no number is left.
abbrev pub IsStopped : MeetFault → Type 0
IsStopped TooManyRows = Unit {0}
IsStopped (Run Differs) = Unit {0}
IsStopped (Run (OfInput fault)) = ⊥
IsStopped (Run (Check fault)) = ⊥
IsStopped (Run ReadFault) = ⊥
IsStopped (Run WriteFault) = ⊥
IsStopped (Run Memory) = Unit {0}

-- Why bytes give no meeting: they are no input without a fault, or the room comes to no end.
abbrev pub IsNotMet : List ℕ → MeetFault → Type 0
IsNotMet bytes TooManyRows = Unit {0}
IsNotMet bytes (Run Differs) = Unit {0}
IsNotMet bytes (Run (OfInput fault)) = IsRefused bytes (OfInput fault)
IsNotMet bytes (Run (Check fault)) = ⊥
IsNotMet bytes (Run ReadFault) = ⊥
IsNotMet bytes (Run WriteFault) = ⊥
IsNotMet bytes (Run Memory) = Unit {0}

-- the same of bytes that are read, and of a text that is written
abbrev pub IsNotMetInRun : List ℕ → MeetFault → Type 0
IsNotMetInRun bytes (Run ReadFault) = Unit {0}
IsNotMetInRun bytes (Run WriteFault) = Unit {0}
IsNotMetInRun bytes (Run (OfInput fault)) = IsNotMet bytes (Run (OfInput fault))
IsNotMetInRun bytes (Run (Check fault)) = ⊥
IsNotMetInRun bytes (Run Differs) = Unit {0}
IsNotMetInRun bytes (Run Memory) = Unit {0}
IsNotMetInRun bytes TooManyRows = Unit {0}

-- a fault of the reader
abbrev pub is_read_fault : {X : Type 0} → Result X MeetFault → Bool
is_read_fault (Ok x) = false
is_read_fault (Err TooManyRows) = false
is_read_fault (Err (Run ReadFault)) = true
is_read_fault (Err (Run (OfInput fault))) = false
is_read_fault (Err (Run (Check fault))) = false
is_read_fault (Err (Run Differs)) = false
is_read_fault (Err (Run WriteFault)) = false
is_read_fault (Err (Run Memory)) = false

-- a fault of the writer
abbrev pub is_write_fault : {X : Type 0} → Result X MeetFault → Bool
is_write_fault (Ok x) = false
is_write_fault (Err TooManyRows) = false
is_write_fault (Err (Run WriteFault)) = true
is_write_fault (Err (Run (OfInput fault))) = false
is_write_fault (Err (Run (Check fault))) = false
is_write_fault (Err (Run Differs)) = false
is_write_fault (Err (Run ReadFault)) = false
is_write_fault (Err (Run Memory)) = false

-- the mark of a reader that had none is set where its fault is answered, and nowhere else
abbrev pub IsReaderMarkedBy : {X R : Type 0} → Result X MeetFault → Stream R → Type 0
IsReaderMarkedBy result reader = reader.failed ≡ is_read_fault result

-- the marks of a writer that had none: one is set where its fault is answered, and none after all else
abbrev pub IsWriterMarkedBy : {X W : Type 0} → Result X MeetFault → Stream W → Type 0
IsWriterMarkedBy result writer = (writer.failed || writer.stalled) ≡ is_write_fault result

-- nothing is written but where the writer failed
abbrev pub IsSilent : Option (List ℕ) → Option (List ℕ) → MeetFault → Type 0
IsSilent old new TooManyRows = Keeps old new
IsSilent old new (Run WriteFault) = Unit {0}
IsSilent old new (Run ReadFault) = Keeps old new
IsSilent old new (Run (OfInput fault)) = Keeps old new
IsSilent old new (Run (Check fault)) = Keeps old new
IsSilent old new (Run Differs) = Keeps old new
IsSilent old new (Run Memory) = Keeps old new

-- where the writer failed, what it took is a beginning of the text of a meeting
abbrev pub WritesBeginning : List ℕ → Option (List ℕ) → Option (List ℕ) → MeetFault → Type 0
WritesBeginning bytes old new TooManyRows = Unit {0}
WritesBeginning bytes old new (Run WriteFault) =
    (room : Room) × (text : List ℕ) × IsMeeting bytes room text × AppendsBeginning old new text
WritesBeginning bytes old new (Run ReadFault) = Unit {0}
WritesBeginning bytes old new (Run (OfInput fault)) = Unit {0}
WritesBeginning bytes old new (Run (Check fault)) = Unit {0}
WritesBeginning bytes old new (Run Differs) = Unit {0}
WritesBeginning bytes old new (Run Memory) = Unit {0}
