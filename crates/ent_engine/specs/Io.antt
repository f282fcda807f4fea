-- What the reader and the writer of a run did.
use Rattle.std.specs.Prelude.{◌≡◌, ℕ, Bool, true, false, ◌<◌, ◌++◌, ◌||◌, List, length, Option, IfSome, Result, Ok, Err}
use Rattle.std.specs.Io.KnownBytes.{Appends, Keeps}
use Rattle.ent_value.specs.Watched.{Stream}
use Rattle.ent_input.specs.Reading.{IsInput}
use Rattle.ent_input.specs.declared.fault.InputFault.TheVariants.{TooLong, NotUtf8, Sql, Form}
use Rattle.ent_input.specs.declared.reading.TheConstants.{MOST_BYTES}
use Rattle.ent_engine.specs.declared.fault.RunFault.{RunFault}
use Rattle.ent_engine.specs.declared.fault.RunFault.TheVariants.{Input as OfInput, Check, Differs, ReadFault, WriteFault}
use Rattle.ent_engine.specs.declared.fault.RunFault.TheVariants.{Memory}
use Rattle.ent_tree.specs.declared.script.Input.{Input}
use Rattle.ent_semantics.specs.declared.book.Book.{Book}
use Rattle.ent_semantics.specs.Database.{Database}
use Rattle.ent_book.specs.declared.version.ReportVersion.{ReportVersion}
use Rattle.ent_book.specs.Version.{text_of}
use Rattle.ent_sched.specs.Play.{IsBookOf}

-- Reading to the end fails for want of memory, where there is too much, or where the reader fails.
abbrev pub ReadingFails : Option (List ℕ) → RunFault → Type 0
ReadingFails remaining (OfInput TooLong) = IfSome remaining (λ all. MOST_BYTES < length all)
ReadingFails remaining (OfInput (NotUtf8 place)) = ⊥
ReadingFails remaining (OfInput (Sql fault)) = ⊥
ReadingFails remaining (OfInput (Form fault)) = ⊥
ReadingFails remaining ReadFault = Unit {0}
ReadingFails remaining Memory = Unit {0}
ReadingFails remaining (Check fault) = ⊥
ReadingFails remaining Differs = ⊥
ReadingFails remaining WriteFault = ⊥

-- a fault of the reader
abbrev pub is_read_fault : {X : Type 0} → Result X RunFault → Bool
is_read_fault (Ok x) = false
is_read_fault (Err ReadFault) = true
is_read_fault (Err (OfInput fault)) = false
is_read_fault (Err (Check fault)) = false
is_read_fault (Err Differs) = false
is_read_fault (Err WriteFault) = false
is_read_fault (Err Memory) = false

-- a fault of the writer
abbrev pub is_write_fault : {X : Type 0} → Result X RunFault → Bool
is_write_fault (Ok x) = false
is_write_fault (Err WriteFault) = true
is_write_fault (Err (OfInput fault)) = false
is_write_fault (Err (Check fault)) = false
is_write_fault (Err Differs) = false
is_write_fault (Err ReadFault) = false
is_write_fault (Err Memory) = false

-- the mark of a reader that had none is set where its fault is answered, and nowhere else
abbrev pub IsReaderMarkedBy : {X R : Type 0} → Result X RunFault → Stream R → Type 0
IsReaderMarkedBy result reader = reader.failed ≡ is_read_fault result

-- the marks of a writer that had none: one is set where its fault is answered, and none after all else
abbrev pub IsWriterMarkedBy : {X W : Type 0} → Result X RunFault → Stream W → Type 0
IsWriterMarkedBy result writer = (writer.failed || writer.stalled) ≡ is_write_fault result

-- nothing is written but where the writer failed; then a beginning of some text
abbrev pub IsSilent : Option (List ℕ) → Option (List ℕ) → RunFault → Type 0
IsSilent old new WriteFault = Unit {0}
IsSilent old new ReadFault = Keeps old new
IsSilent old new (OfInput fault) = Keeps old new
IsSilent old new (Check fault) = Keeps old new
IsSilent old new Differs = Keeps old new
IsSilent old new Memory = Keeps old new

-- what was written is the report, of this version, of a book of the input that these bytes are
abbrev pub WritesReport : ReportVersion → List ℕ → Option (List ℕ) → Option (List ℕ) → Type 0
WritesReport version bytes old new =
    (input : Input) × (book : Book Database)
    × IsInput bytes input × IsBookOf input book × Appends old new (text_of version book)

-- where the writer failed, what it took is a beginning of such a report
abbrev pub WritesBeginning : ReportVersion → List ℕ → Option (List ℕ) → Option (List ℕ) → RunFault → Type 0
WritesBeginning version bytes old new WriteFault =
    (input : Input) × (book : Book Database)
    × IsInput bytes input × IsBookOf input book
    × ((front rest : List ℕ) × (text_of version book ≡ front ++ rest) × Appends old new front)
WritesBeginning version bytes old new ReadFault = Unit {0}
WritesBeginning version bytes old new (OfInput fault) = Unit {0}
WritesBeginning version bytes old new (Check fault) = Unit {0}
WritesBeginning version bytes old new Differs = Unit {0}
WritesBeginning version bytes old new Memory = Unit {0}
