-- Steps of resolving, each of which gives a form or a fault. The first fault ends it.
use Rattle.std.specs.Prelude.{Bool, Option, Some, None, Result, Ok, Err, if◌then◌else◌}
use Rattle.ent_form.specs.declared.fault.FormFault.{FormFault}

-- what is there, or the fault where it isn't
abbrev pub there : {A : Type 0} → Option A → FormFault → Result A FormFault
there (Some x) fault = Ok x
there None fault = Err fault

-- goes on where the test holds; else the fault
abbrev pub demand : {A : Type 0} → Bool → FormFault → Result A FormFault → Result A FormFault
demand test fault more = if test then more else Err fault
