-- Scripts that come in alone, and why they aren't taken.
use Rattle.std.specs.Prelude.{◌≡◌, ℕ, List, Ok, Err}
use Rattle.ent_tree.specs.declared.declaration.Opening.{Opening}
use Rattle.ent_tree.specs.declared.script.Script.{Script}
use Rattle.ent_semantics.specs.declared.operand.Known.{Known}
use Rattle.ent_semantics.specs.declared.statement.Statement.{Statement}
use Rattle.ent_protocol.specs.Event.{Submit, Submitted, Full as IsFull, Faulty}
use Rattle.ent_protocol.specs.State.{State}
use Rattle.ent_protocol.specs.Step.{Step}
use Rattle.ent_sched.specs.Passed.{resolved_forms}
use Rattle.ent_value.specs.declared.refusal.Refusal.{Refusal}
use Rattle.ent_value.specs.declared.refusal.Refusal.TheVariants as refusals
use Rattle.ent_input.specs.Reading.{IsNoScript, IsScript}
use Rattle.ent_input.specs.declared.fault.InputFault.{InputFault}
use Rattle.ent_input.specs.declared.fault.InputFault.TheVariants.{TooLong, NotUtf8, Sql, Form}
use Rattle.ent_driver.specs.declared.fault.DriverFault.{DriverFault}
use Rattle.ent_driver.specs.declared.fault.DriverFault.TheVariants.{Text, Memory, Vacant, Absent, NotDone, Full}
use Rattle.ent_driver.specs.declared.fault.DriverFault.TheVariants.{TooManyRows}

-- bytes that read as one script, which has a form over the tables of an opening
abbrev pub HasForm : Opening → List ℕ → Type 0
HasForm opening bytes =
    (script : Script) × (form : List (Statement Known))
    × IsScript bytes script × (resolved_forms.resolve opening script ≡ Ok form)

-- the first fault of bytes that should be such a script: they are none, or it has this fault of form
abbrev pub IsFaultOver : Opening → List ℕ → InputFault → Type 0
IsFaultOver opening bytes TooLong = IsNoScript bytes TooLong
IsFaultOver opening bytes (NotUtf8 place) = IsNoScript bytes (NotUtf8 place)
IsFaultOver opening bytes (Sql fault) = IsNoScript bytes (Sql fault)
IsFaultOver opening bytes (Form fault) =
    (script : Script) × IsScript bytes script × (resolved_forms.resolve opening script ≡ Err fault)

-- refused for that fault, or since memory ran out
abbrev pub RefusesOver : Opening → List ℕ → Refusal InputFault → Type 0
RefusesOver opening bytes refusals.Memory = Unit {0}
RefusesOver opening bytes (refusals.Fault fault) = IsFaultOver opening bytes fault

-- the script of these bytes comes in, under this number
abbrev pub Takes : List ℕ → State → ℕ → State → Type 0
Takes bytes s tx new =
    (script : Script) × IsScript bytes script × Step resolved_forms s (Submit script) (Submitted tx) new

-- why a core doesn't take them: they are no script, or the core refuses the script that they are
abbrev pub IsNotTaken : List ℕ → State → DriverFault → Type 0
IsNotTaken bytes s (Text TooLong) = IsNoScript bytes TooLong
IsNotTaken bytes s (Text (NotUtf8 place)) = IsNoScript bytes (NotUtf8 place)
IsNotTaken bytes s (Text (Sql fault)) = IsNoScript bytes (Sql fault)
IsNotTaken bytes s (Text (Form fault)) =
    (script : Script) × IsScript bytes script × Step resolved_forms s (Submit script) (Faulty script fault) s
IsNotTaken bytes s Memory = Unit {0}
IsNotTaken bytes s Full =
    (script : Script) × IsScript bytes script × Step resolved_forms s (Submit script) (IsFull script) s
IsNotTaken bytes s Vacant = ⊥
IsNotTaken bytes s Absent = ⊥
IsNotTaken bytes s NotDone = ⊥
IsNotTaken bytes s TooManyRows = ⊥
