-- What C's calls do with a room. `old` and `new` are what the caller's handle holds before and after the call, or the
-- room in it; `refusal` is the number of the refusal afterwards, and `status` is what the call answers.
use Rattle.std.specs.Prelude.{◌≡◌, ◌⊎◌, ℕ, ℤ, pos, List, [], Option, Some, None, true, false}
use Rattle.std.specs.BTreeSet.{contains}
use Rattle.std.specs.Ordering.{nat_cmp}
use Rattle.ent_room.specs.Passed.{IsAtRest}
use Rattle.ent_bound.specs.declared.variable.BoundVariable.{BoundVariable}
use Rattle.ent_prepare.specs.declared.row.GivenRow.{GivenRow}
use Rattle.ent_prepare.specs.Prepared.{IsFirstFault}
use Rattle.ent_room.specs.Acts.{Advances, OnlyShifts}
use Rattle.ent_room.specs.Putting as putting
use Rattle.ent_room.specs.Reading.{IsNotOpened, Opens}
use Rattle.ent_room.specs.Room.{Room}
use Rattle.ent_room.specs.State.{AreResting}
use Rattle.ent_room.specs.declared.putting.NotPut.{NotPut}
use Rattle.ent_room.specs.declared.putting.NotPut.TheVariants as put
use Rattle.ent_room.specs.declared.putting.NotPutBack.{NotPutBack}
use Rattle.ent_room.specs.declared.putting.NotPutBack.TheVariants as back
use Rattle.ent_room.specs.declared.putting.Stay.{Stay}
use Rattle.ent_room.specs.declared.reading.NotOpened.{NotOpened}
use Rattle.ent_room.specs.declared.step.NotStepped.{NotStepped}
use Rattle.ent_room.specs.declared.step.Stepped.{Stepped}
use Rattle.ent_room.specs.declared.step.Stepped.TheVariants as steps
use Rattle.ent_room_calls.specs.Fault.{code_of, item_of, number_of, place_of, status as fault_status}
use Rattle.ent_room_calls.specs.Fault.{of_open, of_put, of_restore, of_step, of_withdraw}
use Rattle.ent_room_calls.specs.Stay.{IsNoStay, IsStay}
use Rattle.ent_room_calls.specs.Turning.{IsNotTurned, Turns}
use Rattle.ent_room_calls.specs.declared.fault.RoomFault.{RoomFault}
use Rattle.ent_room_calls.specs.declared.fault.RoomFault.TheVariants.{Memory as OutOfMemory}
use Rattle.ent_value.specs.declared.refusal.Refusal.{Refusal}
use Rattle.ent_value.specs.declared.refusal.Refusal.TheVariants as refusals
use Rattle.ent_waiting.specs.WaitingList.{IsFull, IsIdle, IsInBatch, IsUsed, MayComeBack, Onward}
use Rattle.ent_waiting.specs.WaitingList.{ending_as, waiter_of}
use Rattle.ent_waiting.specs.declared.ended.Ending.TheVariants.{Withdrawn}
use Rattle.ent_waiting.specs.declared.waiter.Waiter.{Waiter}
use Rattle.ent_waiting.specs.declared.waiting_list.Limits.{Limits}
use Rattle.ent_waiting.specs.declared.waiting_list.NotRestored.TheVariants.{NoRoom, Used}
use Rattle.ent_waiting.specs.declared.waiting_list.NotWithdrawn.{NotWithdrawn}
use Rattle.ent_waiting.specs.declared.waiting_list.NotWithdrawn.TheVariants.{Absent, InBatch}
use Rattle.ent_c.specs.Told.{told_of_text, TellsCode}
use Rattle.ent_c.specs.declared.room.Limits.{Limits as CLimits}
use Rattle.ent_c.specs.declared.told.CallTold.{CallTold}

-- what a handle holds: nothing where it is null
abbrev pub Held : Type 0
Held = Option Room

-- a call that is misused changes nothing
abbrev pub IsMisused : Held → Held → ℤ → Type 0 → Type 0
IsMisused old new status Same = (new ≡ old) × (status ≡ pos 2) × Same

-- what a call does with an open room; where the handle is null, the call is misused
abbrev pub OfRoom : Held → Held → ℤ → Type 0 → (Room → Room → Type 0) → Type 0
OfRoom None new status Same Does = IsMisused None new status Same
OfRoom (Some room) new status Same Does = (next : Room) × (new ≡ Some next) × Does room next

-- the same of a call that looks at the room, which stays as it is
abbrev pub InRoom : Held → Held → ℤ → Type 0 → (Room → Type 0) → Type 0
InRoom None new status Same Holds = IsMisused None new status Same
InRoom (Some room) new status Same Holds = (new ≡ Some room) × Holds room

-- what a call does with the stay of a number; where there is no such one, the call is misused
abbrev pub OfStay : ℤ → Type 0 → (Stay → Type 0) → Type 0
OfStay number Misused Does = (IsNoStay number × Misused) ⊎ ((stay : Stay) × IsStay number stay × Does stay)

-- the values behind a handle: none where it is null
abbrev pub bound_in : Option (List BoundVariable) → List BoundVariable
bound_in None = []
bound_in (Some list) = list

-- the rows behind a handle: none where it is null
abbrev pub given_in : Option (List GivenRow) → List GivenRow
given_in None = []
given_in (Some rows) = rows

-- neither the number of a refusal nor what is told is written
abbrev pub IsKept : ℕ → ℕ → CallTold → CallTold → Type 0
IsKept refusal refusal' told told' = (refusal' ≡ refusal) × (told' ≡ told)

-- the limits of C, as a waiting list has them
abbrev pub limits_of : CLimits → Limits
limits_of limits = record { most_waiters = limits.most_waiters; most_ended = limits.most_ended }

-- ---- what is told

-- no fault is told
abbrev pub TellsDone : ℕ → ℤ → Type 0
TellsDone refusal status = (refusal ≡ 0) × (status ≡ pos 0)

-- a fault is told by its number and the status
abbrev pub TellsNumber : RoomFault → ℕ → ℤ → Type 0
TellsNumber fault refusal status = (refusal ≡ number_of fault) × (status ≡ pos (fault_status fault))

-- a fault of this number, of a bound variable or of a given row, which is told by its own number, beside a text of so
-- many bytes
abbrev pub told_of_item : ℕ → ℕ → ℕ → CallTold
told_of_item count code item =
    record { needed = count; offset = item; line = 0; column = 0; code = code; has_place = false }

abbrev pub TellsWhere : Option ℕ → RoomFault → List ℕ → ℕ → CallTold → Type 0
TellsWhere None fault bytes count told = TellsCode (code_of fault) (place_of fault) bytes count told
TellsWhere (Some item) fault bytes count told = told ≡ told_of_item count (code_of fault) item

-- a fault is told of the bytes that were handed in, or which variable or row it is of, beside a text of so many bytes
abbrev pub TellsBeside : RoomFault → List ℕ → ℕ → CallTold → Type 0
TellsBeside fault bytes count told = TellsWhere (item_of fault) fault bytes count told

-- the same beside no text
abbrev pub TellsRoom : RoomFault → List ℕ → CallTold → Type 0
TellsRoom fault bytes told = TellsBeside fault bytes 0 told

-- ---- opening

-- the input has this first fault, or the rows do behind its own, or there are more scripts than may wait; or memory ran
-- out
abbrev pub IsNoRoom : List ℕ → List GivenRow → ℕ → Limits → RoomFault → Type 0
IsNoRoom bytes rows next limits fault =
    (refused : Refusal NotOpened) × IsNotOpened bytes rows next limits refused × (fault ≡ of_open refused)

-- a handle that was null has a room over the input and these rows, or it is told why not; one that wasn't null is
-- misused
abbrev pub OpensRoom : List ℕ → List GivenRow → ℕ → ℕ → ℕ → Limits → Held → Held → Type 0 → ℕ → CallTold → ℤ → Type 0
OpensRoom bytes rows number next next_group limits (Some room) new Same refusal told status =
    IsMisused (Some room) new status Same
OpensRoom bytes rows number next next_group limits None new Same refusal told status =
    ((room : Room) × Opens bytes rows number next next_group limits room × (new ≡ Some room) × (told ≡ told_of_text 0)
    × TellsDone refusal status)
    ⊎ ((fault : RoomFault) × IsNoRoom bytes rows next limits fault × (new ≡ None) × TellsRoom fault bytes told
    × TellsNumber fault refusal status)

-- the rows are taken; where the call is misused, they stay
abbrev pub TakesRows : Held → Option (List GivenRow) → Option (List GivenRow) → Type 0
TakesRows None old new = new ≡ None
TakesRows (Some room) old new = new ≡ old

-- ---- scripts that come and go

-- the script that the text and the values are waits under the next ticket; else all is as it was
abbrev pub Puts : List ℕ → List BoundVariable → Stay → Room → ℕ → Room → Type 0
Puts bytes variables stay old ticket new =
    (ticket ≡ old.admission.list.next)
    × putting.Puts old.admission bytes variables stay new.admission.list
    × (new.admission.epoch ≡ old.admission.epoch) × (new.admission.coming ≡ old.admission.coming)
    × (new.admission.feed ≡ old.admission.feed) × (new.admission.news ≡ old.admission.news)
    × (new.last ≡ old.last) × Onward old.admission.list new.admission.list

-- the text, the values or the form has this first fault, or there is no room for one more; or memory ran out
abbrev pub IsNotPut : List ℕ → List BoundVariable → Room → Refusal NotPut → Type 0
IsNotPut bytes variables room refusals.Memory = Unit {0}
IsNotPut bytes variables room (refusals.Fault (put.Faulty fault)) =
    IsFirstFault (putting.tables_of room.admission) bytes variables fault
IsNotPut bytes variables room (refusals.Fault put.Full) = IsFull room.admission.list

-- a script is put, and its ticket is told; or it is told why not, and nothing changes
abbrev pub PutsIn : List ℕ → List BoundVariable → Stay → Room → Room → ℕ → ℕ → ℕ → CallTold → ℤ → Type 0
PutsIn bytes variables stay old new before ticket refusal told status =
    (Puts bytes variables stay old ticket new × (told ≡ told_of_text 0) × TellsDone refusal status)
    ⊎ ((refused : Refusal NotPut) × IsNotPut bytes variables old refused × (new ≡ old) × (ticket ≡ before)
    × TellsRoom (of_put refused) bytes told × TellsNumber (of_put refused) refusal status)

-- the script that the text and the values are waits again under its ticket; else all is as it was
abbrev pub PutsBack : ℕ → List ℕ → List BoundVariable → Stay → ℕ → Room → Room → Type 0
PutsBack ticket bytes variables stay batches old new =
    ¬ IsUsed old.admission.list ticket
    × putting.Restores old.admission ticket bytes variables stay batches new.admission.list
    × (new.admission.epoch ≡ old.admission.epoch) × (new.admission.coming ≡ old.admission.coming)
    × (new.admission.feed ≡ old.admission.feed) × (new.admission.news ≡ old.admission.news)
    × (new.last ≡ old.last) × Onward old.admission.list new.admission.list

-- the same, or the ticket can't come back
abbrev pub IsNotPutBack : ℕ → List ℕ → List BoundVariable → Room → Refusal NotPutBack → Type 0
IsNotPutBack ticket bytes variables room refusals.Memory = Unit {0}
IsNotPutBack ticket bytes variables room (refusals.Fault (back.Faulty fault)) =
    IsFirstFault (putting.tables_of room.admission) bytes variables fault
IsNotPutBack ticket bytes variables room (refusals.Fault (back.Refused NoRoom)) = IsFull room.admission.list
IsNotPutBack ticket bytes variables room (refusals.Fault (back.Refused Used)) =
    ¬ MayComeBack room.admission.list ticket

abbrev pub PutsBackIn : ℕ → List ℕ → List BoundVariable → Stay → ℕ → Room → Room → ℕ → CallTold → ℤ → Type 0
PutsBackIn ticket bytes variables stay batches old new refusal told status =
    (PutsBack ticket bytes variables stay batches old new × (told ≡ told_of_text 0) × TellsDone refusal status)
    ⊎ ((refused : Refusal NotPutBack) × IsNotPutBack ticket bytes variables old refused × (new ≡ old)
    × TellsRoom (of_restore refused) bytes told × TellsNumber (of_restore refused) refusal status)

-- a script that waited, and was in no batch, ended as withdrawn; else all is as it was
abbrev pub Withdraws : ℕ → Room → Room → Type 0
Withdraws ticket old new =
    IsIdle old.admission.list ticket
    × ((waiter : Waiter) → waiter_of old.admission.list ticket ≡ Some waiter
    → new.admission.list ≡ ending_as ticket Withdrawn false waiter old.admission.list)
    × (waiter_of new.admission.list ticket ≡ None)
    × (new.admission.epoch ≡ old.admission.epoch) × (new.admission.coming ≡ old.admission.coming)
    × (new.admission.feed ≡ old.admission.feed) × (new.admission.news ≡ old.admission.news)
    × (new.last ≡ old.last) × Onward old.admission.list new.admission.list

-- nobody waits under the ticket, or it is in a batch; or memory ran out
abbrev pub IsNotWithdrawn : ℕ → Room → Refusal NotWithdrawn → Type 0
IsNotWithdrawn ticket room refusals.Memory = Unit {0}
IsNotWithdrawn ticket room (refusals.Fault Absent) = waiter_of room.admission.list ticket ≡ None
IsNotWithdrawn ticket room (refusals.Fault InBatch) =
    IsInBatch room.admission.list ticket ⊎ (contains nat_cmp room.admission.coming ticket ≡ true)

abbrev pub WithdrawsFrom : ℕ → Room → Room → ℕ → ℤ → Type 0
WithdrawsFrom ticket old new refusal status =
    (Withdraws ticket old new × TellsDone refusal status)
    ⊎ ((refused : Refusal NotWithdrawn) × IsNotWithdrawn ticket old refused × (new ≡ old)
    × TellsNumber (of_withdraw refused) refusal status)

-- ---- steps and turns

abbrev pub step_number : Stepped → ℕ
step_number steps.Idle = 1
step_number steps.Searched = 2
step_number steps.Ran = 3

-- What is done leads on over the same tables. Afterwards no batch is on, and all who wait rest if there was nothing to
-- do; or it is told why not, and what was done stands.
abbrev pub StepsIn : Room → Room → ℕ → ℕ → ℕ → ℤ → Type 0
StepsIn old new before step refusal status =
    Advances old new
    × (((stepped : Stepped) × IsAtRest new.admission × (stepped ≡ steps.Idle → AreResting new.admission.list)
    × (step ≡ step_number stepped) × TellsDone refusal status)
    ⊎ ((refused : Refusal NotStepped) × (step ≡ before) × TellsNumber (of_step refused) refusal status))

-- those go on whom a bound stopped, and nothing else is done; or memory ran out, and some do
abbrev pub GoesFurtherIn : Room → Room → ℕ → ℤ → Type 0
GoesFurtherIn old new refusal status =
    OnlyShifts old new × (TellsDone refusal status ⊎ TellsNumber OutOfMemory refusal status)

-- the epoch ends, and the next begins; or it is told why not, and nothing changes
abbrev pub TurnsIn : List ℕ → Room → Room → ℕ → CallTold → ℤ → Type 0
TurnsIn bytes old new refusal told status =
    (Turns bytes old new × (told ≡ told_of_text 0) × TellsDone refusal status)
    ⊎ ((fault : RoomFault) × IsNotTurned bytes old fault × (new ≡ old) × TellsRoom fault bytes told
    × TellsNumber fault refusal status)
