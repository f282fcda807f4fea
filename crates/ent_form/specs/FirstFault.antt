-- What is refused, and for which fault: the first of those that stand.
use Rattle.std.specs.Prelude.{◌≡◌, List, [], Some, Result, Ok, Err}
use Rattle.ent_value.specs.declared.refusal.Refusal.{Refusal}
use Rattle.ent_value.specs.declared.refusal.Refusal.TheVariants.{Memory, Fault}
use Rattle.ent_form.specs.declared.fault.FormFault.{FormFault}
use Rattle.ent_form.specs.AllFaults.{head_of}

-- where no fault stands there is an answer, and where some do the first of them is answered, unless memory ran out
abbrev pub RefusedForFirst : {X : Type 0} → List FormFault → Result X (Refusal FormFault) → Type 0
RefusedForFirst faults (Ok x) = faults ≡ []
RefusedForFirst faults (Err Memory) = Unit {0}
RefusedForFirst faults (Err (Fault fault)) = head_of faults ≡ Some fault
