-- Why a call of a room does nothing, in numbers.
use Rattle.std.specs.Prelude.{ℕ, Option, Some, None}
use Rattle.ent_bound.specs.declared.fault.BindingFault.{BindingFault}
use Rattle.ent_bound.specs.declared.fault.BindingFault.TheVariants.{Value as ValueOf, Twice, SetByScript, Unused}
use Rattle.ent_bound.specs.declared.fault.ValueFault.{ValueFault}
use Rattle.ent_bound.specs.declared.fault.ValueFault.TheVariants.{LeastNumber, TooLong, NotUtf8, ControlCharacter}
use Rattle.ent_input.specs.Fault.{code_of as input_code_of, place_of as input_place_of}
use Rattle.ent_form.specs.Fault.{code_of as form_code_of, place_of as form_place_of}
use Rattle.ent_prepare.specs.Fault.{code_of as prepare_code_of, place_of as prepare_place_of}
use Rattle.ent_prepare.specs.declared.fault.PrepareFault.{PrepareFault}
use Rattle.ent_prepare.specs.declared.fault.PrepareFault.TheVariants.{Text, Binding}
use Rattle.ent_room.specs.declared.putting.NotPut.{NotPut}
use Rattle.ent_room.specs.declared.putting.NotPut.TheVariants as put
use Rattle.ent_room.specs.declared.putting.NotPutBack.{NotPutBack}
use Rattle.ent_room.specs.declared.putting.NotPutBack.TheVariants as back
use Rattle.ent_room.specs.declared.reading.NotOpened.{NotOpened}
use Rattle.ent_room.specs.declared.reading.NotOpened.TheVariants as opened
use Rattle.ent_room.specs.declared.step.NotStepped.{NotStepped}
use Rattle.ent_room.specs.declared.step.NotStepped.TheVariants as stepped
use Rattle.ent_value.specs.declared.refusal.Refusal.{Refusal}
use Rattle.ent_value.specs.declared.refusal.Refusal.TheVariants as refusals
use Rattle.ent_waiting.specs.declared.waiting_list.NotRestored.TheVariants as restored
use Rattle.ent_waiting.specs.declared.waiting_list.NotWithdrawn.{NotWithdrawn}
use Rattle.ent_waiting.specs.declared.waiting_list.NotWithdrawn.TheVariants as withdrawn
use Rattle.ent_room_calls.specs.declared.fault.RoomFault.{RoomFault}
use Rattle.ent_room_calls.specs.declared.fault.RoomFault.TheVariants.{Memory, Input, Faulty, Full, Value, NoName}
use Rattle.ent_room_calls.specs.declared.fault.RoomFault.TheVariants.{Used, Absent, Busy, TooManyRows, NoNumber}
use Rattle.ent_room_calls.specs.declared.fault.RoomFault.TheVariants.{NotARow, TooManyValues}

-- ---- the refusals of a room's calls

abbrev pub of_open : Refusal NotOpened → RoomFault
of_open refusals.Memory = Memory
of_open (refusals.Fault opened.Full) = Full
of_open (refusals.Fault (opened.Faulty fault)) = Input fault
of_open (refusals.Fault opened.TooManyRows) = TooManyRows
of_open (refusals.Fault (opened.NotARow fault)) = NotARow fault

abbrev pub of_put : Refusal NotPut → RoomFault
of_put refusals.Memory = Memory
of_put (refusals.Fault put.Full) = Full
of_put (refusals.Fault (put.Faulty fault)) = Faulty fault

abbrev pub of_restore : Refusal NotPutBack → RoomFault
of_restore refusals.Memory = Memory
of_restore (refusals.Fault (back.Refused restored.Used)) = Used
of_restore (refusals.Fault (back.Refused restored.NoRoom)) = Full
of_restore (refusals.Fault (back.Faulty fault)) = Faulty fault

abbrev pub of_withdraw : Refusal NotWithdrawn → RoomFault
of_withdraw refusals.Memory = Memory
of_withdraw (refusals.Fault withdrawn.Absent) = Absent
of_withdraw (refusals.Fault withdrawn.InBatch) = Busy

abbrev pub of_step : Refusal NotStepped → RoomFault
of_step refusals.Memory = Memory
of_step (refusals.Fault stepped.TooManyRows) = TooManyRows
of_step (refusals.Fault stepped.NoNumber) = NoNumber

-- ---- numbers

abbrev pub value_number : ValueFault → ℕ
value_number LeastNumber = 3
value_number TooLong = 4
value_number (NotUtf8 place) = 5
value_number (ControlCharacter place) = 6

abbrev pub binding_number : BindingFault → ℕ
binding_number (ValueOf number fault) = value_number fault
binding_number (Twice number) = 7
binding_number (SetByScript number) = 8
binding_number (Unused number) = 9

abbrev pub prepare_number : PrepareFault → ℕ
prepare_number (Text fault) = 1
prepare_number (Binding fault) = binding_number fault

-- as C names them; 0: memory ran out
abbrev pub number_of : RoomFault → ℕ
number_of Memory = 0
number_of (Input fault) = 1
number_of (Faulty fault) = prepare_number fault
number_of Full = 2
number_of (Value fault) = value_number fault
number_of NoName = 10
number_of Used = 11
number_of Absent = 12
number_of Busy = 13
number_of TooManyRows = 14
number_of NoNumber = 15
number_of (NotARow fault) = 16
number_of TooManyValues = 17

-- 0 where there is none
abbrev pub or_0 : Option ℕ → ℕ
or_0 None = 0
or_0 (Some n) = n

abbrev pub code_of : RoomFault → ℕ
code_of Memory = 900
code_of (Input fault) = input_code_of fault
code_of (Faulty fault) = or_0 (prepare_code_of fault)
code_of Absent = 401
code_of TooManyRows = 407
code_of Full = 0
code_of (Value fault) = 0
code_of NoName = 0
code_of Used = 0
code_of Busy = 0
code_of NoNumber = 0
code_of (NotARow fault) = form_code_of fault
code_of TooManyValues = 0

abbrev pub place_of : RoomFault → Option ℕ
place_of (Input fault) = input_place_of fault
place_of (Faulty fault) = prepare_place_of fault
place_of other = None

-- which variable has a fault
abbrev pub binding_variable : BindingFault → ℕ
binding_variable (ValueOf number fault) = number
binding_variable (Twice number) = number
binding_variable (SetByScript number) = number
binding_variable (Unused number) = number

-- which of the bound variables, or of the given rows, has the fault
abbrev pub item_of : RoomFault → Option ℕ
item_of (Faulty (Binding fault)) = Some (binding_variable fault)
item_of (NotARow fault) = Some (form_place_of fault)
item_of other = None

-- 3: memory ran out; else 1
abbrev pub status : RoomFault → ℕ
status Memory = 3
status other = 1
