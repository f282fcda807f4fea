-- The exit status of a command.
use Rattle.std.specs.Prelude.{ℕ, Result, Ok, Err}
use Rattle.ent_check_report.specs.declared.verdict.Verdict.{Verdict}
use Rattle.ent_check_report.specs.declared.verdict.Verdict.TheVariants.{Yes, No}
use Rattle.ent_engine.specs.declared.fault.RunFault.{RunFault}
use Rattle.ent_engine.specs.Fault.{status}
use Rattle.ent_command.specs.declared.ending.Ending.{Ending}
use Rattle.ent_command.specs.declared.ending.Ending.TheVariants.{Done, Refused, Misused, Faulty, Undrawn, Overfull}

abbrev pub status_of : Ending → ℕ
status_of Done = 0
status_of Refused = 1
status_of Misused = 2
status_of (Faulty fault) = status fault
status_of (Undrawn line) = 1
status_of Overfull = 1

-- how a command ends whose run ended so
abbrev pub ending_of : {X : Type 0} → Result X RunFault → Ending
ending_of (Ok x) = Done
ending_of (Err fault) = Faulty fault

-- how a command ends whose check answered so
abbrev pub ending_after : Verdict → Ending
ending_after Yes = Done
ending_after (No line rule) = Refused
