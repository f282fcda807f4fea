-- What C's calls tell of a room.
use Rattle.std.specs.Prelude.{◌≡◌, ◌⊎◌, ◌≤◌, ℕ, ℤ, pos, List, [], length, Some, None, IsSome, slice_get}
use Rattle.ent_book.specs.Tables.{book_seen}
use Rattle.ent_bound.specs.declared.variable.BoundVariable.{BoundVariable}
use Rattle.ent_book.specs.Version.{text_of}
use Rattle.ent_engine.specs.declared.fault.RunFault.TheVariants.{Input}
use Rattle.ent_book.specs.declared.version.ReportVersion.{ReportVersion}
use Rattle.ent_prepare.specs.Prepared.{IsFirstFault}
use Rattle.ent_prepare.specs.declared.fault.PrepareFault.{PrepareFault}
use Rattle.ent_prepare.specs.declared.fault.PrepareFault.TheVariants.{Binding, Text}
use Rattle.ent_room.specs.Putting.{HasScript, tables_of}
use Rattle.ent_room.specs.Room.{Room}
use Rattle.ent_room.specs.State.{StandsAs, submissions_of}
use Rattle.ent_room.specs.declared.epoch_book.EpochBook.{EpochBook}
use Rattle.ent_room.specs.declared.state.State.{State}
use Rattle.ent_room.specs.declared.state.State.TheVariants as states
use Rattle.ent_room_calls.specs.Binding.{binding_line}
use Rattle.ent_room_calls.specs.Fault.{status as fault_status}
use Rattle.ent_room_calls.specs.declared.fault.RoomFault.{RoomFault}
use Rattle.ent_room_calls.specs.declared.fault.RoomFault.TheVariants.{Faulty, Memory}
use Rattle.ent_semantics.specs.Book.{IsLegal}
use Rattle.ent_waiting.specs.Ended.{last_but}
use Rattle.ent_waiting.specs.WaitingList.{waiter_of}
use Rattle.ent_waiting.specs.declared.ended.Ended.{Ended}
use Rattle.ent_waiting.specs.declared.ended.Ending.{Ending}
use Rattle.ent_waiting.specs.declared.ended.Ending.TheVariants as endings
use Rattle.ent_waiting.specs.declared.waiter.Submission.{Submission as OneSubmission}
use Rattle.ent_c.specs.Calls.{HandsOut}
use Rattle.ent_c.specs.Explaining.{HandsNothing}
use Rattle.ent_c.specs.Position.{failure_number}
use Rattle.ent_c.specs.Rooms.{TellsBeside, TellsRoom}
use Rattle.ent_c.specs.Text.{IsSaidOf, laid_over}
use Rattle.ent_c.specs.Told.{told_of_text}
use Rattle.ent_c.specs.declared.ticket_state.Submission.{Submission}
use Rattle.ent_c.specs.declared.ticket_state.TicketState.{TicketState}
use Rattle.ent_c.specs.declared.told.CallTold.{CallTold}

-- ---- how a ticket stands, in numbers

-- of this kind, with nothing beside it
abbrev pub no_state : ℕ → TicketState
no_state kind = record { batches = 0; demand = 0; epoch = 0; number = 0; kind = kind; failure = 0 }

abbrev pub ended_state : Ending → TicketState
ended_state (endings.Committed epoch number) = record (no_state 5) { epoch = epoch; number = number }
ended_state endings.RolledBack = no_state 6
ended_state (endings.Failed failure) = record (no_state 7) { failure = failure_number failure }
ended_state endings.GaveUp = no_state 8
ended_state endings.Withdrawn = no_state 9

abbrev pub ticket_state : State → TicketState
ticket_state states.Unknown = no_state 0
ticket_state (states.Waits batches) = record (no_state 1) { batches = batches }
ticket_state (states.Lonely demand) = record (no_state 2) { demand = demand }
ticket_state states.NoMeeting = no_state 3
ticket_state states.Cut = no_state 10
ticket_state states.InBatch = no_state 4
ticket_state (states.Ended ending) = ended_state ending

-- how a ticket stands is told
abbrev pub TellsState : ℕ → Room → TicketState → ℤ → Type 0
TellsState ticket room state status =
    (seen : State) × StandsAs room.admission ticket seen × (state ≡ ticket_state seen) × (status ≡ pos 0)

-- ---- tickets

-- the first ticket from this one on under which a script waits is told; or nobody waits there
abbrev pub TellsWaiting : ℕ → Room → ℕ → ℕ → ℤ → Type 0
TellsWaiting from room before ticket status =
    (IsSome (waiter_of room.admission.list ticket) × (from ≤ ticket)
    × ((other : ℕ) → IsSome (waiter_of room.admission.list other) → from ≤ other → ticket ≤ other)
    × (status ≡ pos 0))
    ⊎ (((other : ℕ) → from ≤ other → waiter_of room.admission.list other ≡ None) × (ticket ≡ before)
    × (status ≡ pos 1))

-- the ticket that ended last but so many others is told; or it isn't kept
abbrev pub TellsEnded : ℕ → Room → ℕ → ℕ → ℤ → Type 0
TellsEnded back room before ticket status =
    ((one : Ended) × (last_but back room.admission.list.ended ≡ Some one) × (ticket ≡ one.ticket) × (status ≡ pos 0))
    ⊎ ((last_but back room.admission.list.ended ≡ None) × (ticket ≡ before) × (status ≡ pos 1))

-- the transaction at this place is told of those that the script of a ticket became; or there is none
abbrev pub TellsSubmission : ℕ → ℕ → Room → Submission → Submission → ℤ → Type 0
TellsSubmission ticket place room before submission status =
    ((one : OneSubmission) × (slice_get (submissions_of room.admission.list ticket) place ≡ Some one)
    × (submission ≡ record { epoch = one.epoch; tx = one.tx }) × (status ≡ pos 0))
    ⊎ ((slice_get (submissions_of room.admission.list ticket) place ≡ None) × (submission ≡ before)
    × (status ≡ pos 1))

-- ---- texts

-- a text with this property is handed out; or nothing, for a fault with that one, of the bytes that were handed in
abbrev pub HandsRoom : (List ℕ → Type 0) → (RoomFault → Type 0) → List ℕ → List ℕ → List ℕ → CallTold → ℤ → Type 0
HandsRoom IsText IsFault bytes old new told status =
    ((text : List ℕ) × IsText text × HandsOut text old new told × (status ≡ pos 0))
    ⊎ ((fault : RoomFault) × IsFault fault × (new ≡ old) × TellsRoom fault bytes told
    × (status ≡ pos (fault_status fault)))

-- what is said of a fault: the line that names it, and what is below that; of a value that isn't bound, a line in words
abbrev pub IsSaid : List BoundVariable → PrepareFault → List ℕ → Type 0
IsSaid variables (Text fault) text = IsSaidOf (Input fault) text
IsSaid variables (Binding fault) text = text ≡ binding_line variables fault

-- the fault is told, for which the script wouldn't be put with these values, and what is said of it is handed out
abbrev pub HandsFault : List BoundVariable → PrepareFault → List ℕ → List ℕ → List ℕ → CallTold → ℤ → Type 0
HandsFault variables fault bytes old new told status =
    (text : List ℕ) × IsSaid variables fault text × (new ≡ laid_over old text)
    × TellsBeside (Faulty fault) bytes (length text) told × (status ≡ pos (fault_status (Faulty fault)))

-- the script could be put with these values, and nothing is handed out; or what is said of the first fault is; or
-- memory ran out for that
abbrev pub ExplainsPut : Room → List ℕ → List BoundVariable → List ℕ → List ℕ → CallTold → ℤ → Type 0
ExplainsPut room bytes variables old new told status =
    (HasScript room.admission bytes variables × HandsNothing old new told status)
    ⊎ (((fault : PrepareFault) × IsFirstFault (tables_of room.admission) bytes variables fault
    × HandsFault variables fault bytes old new told status)
    ⊎ ((new ≡ old) × TellsRoom Memory bytes told × (status ≡ pos (fault_status Memory))))

-- the report of the epoch that ended last, whose book is legal, is handed out, and the epoch's number is told
abbrev pub HandsReport : ReportVersion → Room → ℕ → List ℕ → List ℕ → CallTold → ℤ → Type 0
HandsReport version room epoch old new told status =
    (last : EpochBook) × (room.last ≡ Some last) × IsLegal (book_seen last.book) × (epoch ≡ last.epoch)
    × HandsOut (text_of version (book_seen last.book)) old new told × (status ≡ pos 0)

-- the same; or no epoch has ended; or memory ran out
abbrev pub ReportsOf : ReportVersion → Room → ℕ → ℕ → List ℕ → List ℕ → CallTold → ℤ → Type 0
ReportsOf version room before epoch old new told status =
    HandsReport version room epoch old new told status
    ⊎ ((epoch ≡ before) × (new ≡ old)
    × (((room.last ≡ None) × (told ≡ told_of_text 0) × (status ≡ pos 1))
    ⊎ (TellsRoom Memory [] told × (status ≡ pos 3))))
