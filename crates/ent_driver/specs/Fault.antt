-- The number, the place and the status of a fault.
use Rattle.std.specs.Prelude.{ℕ, Option, None}
use Rattle.ent_value.specs.declared.refusal.Refusal.{Refusal}
use Rattle.ent_value.specs.declared.refusal.Refusal.TheVariants as refusals
use Rattle.ent_input.specs.Fault.{code_of as text_code_of, place_of as text_place_of}
use Rattle.ent_input.specs.declared.fault.InputFault.{InputFault}
use Rattle.ent_driver.specs.declared.fault.DriverFault.{DriverFault}
use Rattle.ent_driver.specs.declared.fault.DriverFault.TheVariants.{Text, Memory, Vacant, Absent, NotDone, Full}
use Rattle.ent_driver.specs.declared.fault.DriverFault.TheVariants.{TooManyRows}

-- a text is refused for its fault, or memory ran out
abbrev pub of_refusal : Refusal InputFault → DriverFault
of_refusal refusals.Memory = Memory
of_refusal (refusals.Fault fault) = Text fault

abbrev pub code_of : DriverFault → ℕ
code_of (Text fault) = text_code_of fault
code_of Memory = 900
code_of Vacant = 0
code_of Absent = 401
code_of NotDone = 405
code_of Full = 406
code_of TooManyRows = 407

abbrev pub place_of : DriverFault → Option ℕ
place_of (Text fault) = text_place_of fault
place_of Memory = None
place_of Vacant = None
place_of Absent = None
place_of NotDone = None
place_of Full = None
place_of TooManyRows = None

-- 2: the handle isn't of the state that is asked for; 3: no memory; else 1
abbrev pub status : DriverFault → ℕ
status (Text fault) = 1
status Memory = 3
status Vacant = 2
status Absent = 1
status NotDone = 1
status Full = 1
status TooManyRows = 1
