-- What the calls of a driver do, and why they are refused.
use Rattle.std.specs.Prelude.{◌≡◌, ◌⊎◌, ℕ, List, None, Some}
use Rattle.ent_book.specs.Report as report
use Rattle.ent_book.specs.Tables.{book_seen}
use Rattle.ent_book.specs.declared.table.NamedTable.{NamedTable}
use Rattle.ent_core.specs.Play.{AreSubmitted}
use Rattle.ent_core.specs.Standing.{standing_seen}
use Rattle.ent_core.specs.declared.standing.Standing.{Standing}
use Rattle.ent_semantics.specs.Book.{IsLegal}
use Rattle.ent_semantics.specs.declared.book.Book.{Book}
use Rattle.ent_protocol.specs.Lookup.{standing}
use Rattle.ent_protocol.specs.Reached.{CanClose, book_of}
use Rattle.ent_protocol.specs.State.{State}
use Rattle.ent_sched.specs.Passed.{resolved_forms}
use Rattle.ent_sched.specs.Onward.{LeadsOn}
use Rattle.ent_tree.specs.declared.declaration.Opening.{Opening}
use Rattle.ent_tree.specs.declared.script.Input.{Input}
use Rattle.ent_input.specs.Reading.{IsInput}
use Rattle.ent_book.specs.Version.{text_of}
use Rattle.ent_book.specs.declared.version.ReportVersion.{ReportVersion}
use Rattle.ent_driver.specs.OneRun.{RunsOnce}
use Rattle.ent_driver.specs.Scripts.{IsNotTaken, Takes}
use Rattle.ent_driver.specs.Told.{HasNoTable, answers_so_far, lines_under}
use Rattle.ent_driver.specs.declared.driver.Driver.{Driver}
use Rattle.ent_driver.specs.declared.driver.Driver.TheVariants as drivers
use Rattle.ent_driver.specs.declared.fault.DriverFault.{DriverFault}
use Rattle.ent_driver.specs.declared.fault.DriverFault.TheVariants.{Memory, Vacant, Absent, NotDone}

-- what holds of the core that is open; where none is, the fault is that
abbrev pub OfOpen : Driver → DriverFault → (State → Type 0) → Type 0
OfOpen (drivers.Open s) fault holds = holds s
OfOpen drivers.Vacant fault holds = fault ≡ Vacant
OfOpen (drivers.Closed book) fault holds = fault ≡ Vacant

-- no core is open
abbrev pub IsNotOpen : Driver → Type 0
IsNotOpen (drivers.Open s) = ⊥
IsNotOpen drivers.Vacant = Unit {0}
IsNotOpen (drivers.Closed book) = Unit {0}

-- a core with these declarations is open
abbrev pub HasOpening : Driver → Opening → Type 0
HasOpening driver opening = (s : State) × (driver ≡ drivers.Open s) × (opening ≡ s.opening)

-- ---- opening, scripts and runs

-- a core is open to which just the scripts of the input were submitted that these bytes are
abbrev pub Opens : List ℕ → Driver → Type 0
Opens bytes driver =
    (input : Input) × (s : State)
    × IsInput bytes input × AreSubmitted input.opening input.scripts s × (driver ≡ drivers.Open s)

abbrev pub Submits : List ℕ → Driver → ℕ → Driver → Type 0
Submits bytes old tx new =
    (s s' : State) × (old ≡ drivers.Open s) × (new ≡ drivers.Open s') × Takes bytes s tx s'

abbrev pub IsNotSubmitted : List ℕ → Driver → DriverFault → Type 0
IsNotSubmitted bytes driver fault = OfOpen driver fault (λ s. IsNotTaken bytes s fault)

abbrev pub Runs : Driver → Driver → Type 0
Runs old new = (s s' : State) × (old ≡ drivers.Open s) × (new ≡ drivers.Open s') × RunsOnce s s'

-- memory ran out, and what was done stands
abbrev pub StopsRun : Driver → Driver → DriverFault → Type 0
StopsRun old new fault =
    OfOpen old fault (λ s. (s' : State) × (count : ℕ) × (new ≡ drivers.Open s')
    × LeadsOn resolved_forms count s s' × (fault ≡ Memory))

-- ---- what is told

abbrev pub Stands : Driver → ℕ → Standing → Type 0
Stands driver tx stands =
    (s : State) × (driver ≡ drivers.Open s) × (standing s tx ≡ Some (standing_seen stands))

abbrev pub StandsNowhere : Driver → ℕ → DriverFault → Type 0
StandsNowhere driver tx fault = OfOpen driver fault (λ s. (fault ≡ Absent) × (standing s tx ≡ None))

abbrev pub Answers : Driver → ℕ → List ℕ → Type 0
Answers driver tx text =
    (s : State) × (driver ≡ drivers.Open s) × (text ≡ report.answers_text 1 (answers_so_far s tx))

abbrev pub IsUnanswered : Driver → ℕ → DriverFault → Type 0
IsUnanswered driver tx fault = (fault ≡ Memory) ⊎ StandsNowhere driver tx fault

abbrev pub Shows : Driver → List ℕ → List ℕ → Type 0
Shows driver name text = (s : State) × (driver ≡ drivers.Open s) × (lines_under s name ≡ Some text)

abbrev pub IsUnshown : Driver → List ℕ → DriverFault → Type 0
IsUnshown driver name fault = OfOpen driver fault (λ s. HasNoTable s name fault)

-- ---- closing

-- the book of the core is left, which is legal
abbrev pub Closes : Driver → Driver → Type 0
Closes old new =
    (s : State) × (book : Book (List NamedTable))
    × (old ≡ drivers.Open s) × (new ≡ drivers.Closed book)
    × (book_seen book ≡ book_of s) × IsLegal (book_seen book)

abbrev pub IsNotClosed : Driver → DriverFault → Type 0
IsNotClosed driver fault = OfOpen driver fault (λ s. (fault ≡ Memory) ⊎ ((fault ≡ NotDone) × ¬ CanClose s))

abbrev pub Reports : Driver → ReportVersion → List ℕ → Type 0
Reports driver version text =
    (book : Book (List NamedTable)) × (driver ≡ drivers.Closed book) × (text ≡ text_of version (book_seen book))

-- memory ran out, or no book is there
abbrev pub IsUnreported : Driver → DriverFault → Type 0
IsUnreported (drivers.Closed book) fault = fault ≡ Memory
IsUnreported drivers.Vacant fault = fault ≡ Vacant
IsUnreported (drivers.Open s) fault = fault ≡ Vacant
