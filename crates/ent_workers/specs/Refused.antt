-- Why a run with workers gives no report.
use Rattle.std.specs.Prelude.{◌≡◌, ℕ, List, Some}
use Rattle.ent_tree.specs.declared.script.Input.{Input}
use Rattle.ent_form.specs.InputFault.{input_fault}
use Rattle.ent_input.specs.declared.fault.InputFault.TheVariants.{TooLong, NotUtf8, Sql, Form}
use Rattle.ent_engine.specs.Reading.{IsRefusedInRun}
use Rattle.ent_engine.specs.declared.fault.RunFault.{RunFault}
use Rattle.ent_engine.specs.declared.fault.RunFault.TheVariants.{Input as OfInput, Check, Differs, ReadFault, WriteFault}
use Rattle.ent_engine.specs.declared.fault.RunFault.TheVariants.{Memory}

-- as a run is refused, or sessions and core differ
abbrev pub IsRefusedAtWork : List ℕ → RunFault → Type 0
IsRefusedAtWork bytes Differs = Unit {0}
IsRefusedAtWork bytes (OfInput fault) = IsRefusedInRun bytes (OfInput fault)
IsRefusedAtWork bytes (Check fault) = IsRefusedInRun bytes (Check fault)
IsRefusedAtWork bytes ReadFault = IsRefusedInRun bytes ReadFault
IsRefusedAtWork bytes WriteFault = IsRefusedInRun bytes WriteFault
IsRefusedAtWork bytes Memory = IsRefusedInRun bytes Memory

-- an input that was read is refused for its first fault of form, for want of memory, or since sessions and core differ
abbrev pub IsRefusedInThreads : Input → RunFault → Type 0
IsRefusedInThreads input Differs = Unit {0}
IsRefusedInThreads input (OfInput TooLong) = ⊥
IsRefusedInThreads input (OfInput (NotUtf8 place)) = ⊥
IsRefusedInThreads input (OfInput (Sql fault)) = ⊥
IsRefusedInThreads input (OfInput (Form fault)) = input_fault input.opening input.scripts ≡ Some fault
IsRefusedInThreads input (Check fault) = ⊥
IsRefusedInThreads input ReadFault = ⊥
IsRefusedInThreads input WriteFault = ⊥
IsRefusedInThreads input Memory = Unit {0}
