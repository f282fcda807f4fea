-- The number, the place and the exit status of a fault.
use Rattle.std.specs.Prelude.{ℕ, List, [], ◌++◌, codes, Option, Some, None}
use Rattle.std.specs.Fmt.{decimal}
use Rattle.ent_value.specs.declared.refusal.Refusal.{Refusal}
use Rattle.ent_value.specs.declared.refusal.Refusal.TheVariants as refusals
use Rattle.ent_check_report.specs.Fault.{code_of as check_code_of, status as check_status}
use Rattle.ent_form.specs.declared.fault.FormFault.{FormFault}
use Rattle.ent_input.specs.Fault.{code_of as input_code_of, place_of as input_place_of}
use Rattle.ent_input.specs.declared.fault.InputFault.{InputFault}
use Rattle.ent_input.specs.declared.fault.InputFault.TheVariants.{Form}
use Rattle.ent_engine.specs.declared.fault.RunFault.{RunFault}
use Rattle.ent_engine.specs.declared.fault.RunFault.TheVariants.{Input, Check, Differs, ReadFault, WriteFault, Memory}

-- an input is refused for its fault, or memory ran out
abbrev pub of_refusal : Refusal InputFault → RunFault
of_refusal refusals.Memory = Memory
of_refusal (refusals.Fault fault) = Input fault

-- the same of a fault of form
abbrev pub of_form : Refusal FormFault → RunFault
of_form refusals.Memory = Memory
of_form (refusals.Fault fault) = Input (Form fault)

abbrev pub code_of : RunFault → ℕ
code_of (Input fault) = input_code_of fault
code_of (Check fault) = check_code_of fault
code_of Differs = 502
code_of ReadFault = 601
code_of WriteFault = 602
code_of Memory = 900

abbrev pub place_of : RunFault → Option ℕ
place_of (Input fault) = input_place_of fault
place_of (Check fault) = None
place_of Differs = None
place_of ReadFault = None
place_of WriteFault = None
place_of Memory = None

-- 1: the input is refused; 3: no memory, or sessions and core differ; 4: the reader or the writer failed
abbrev pub status : RunFault → ℕ
status (Input fault) = 1
status (Check fault) = check_status fault
status Differs = 3
status ReadFault = 4
status WriteFault = 4
status Memory = 3

abbrev pub place_text : Option ℕ → List ℕ
place_text None = []
place_text (Some place) = codes " at " ++ decimal place

-- the line that names a fault, without its end
abbrev pub line_text : RunFault → List ℕ
line_text fault = codes "E" ++ (decimal (code_of fault) ++ place_text (place_of fault))
