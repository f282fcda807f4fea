-- A meaning whose fault is the first of those that stand is answered, or is refused for the first.
use Rattle.std.proofs.Common.{◌≡◌, List, [], ◌∷◌, Option, Some, None, Result, Ok, Err, ap, sym, ◌∙◌, refl}
use Rattle.ent_value.specs.Refusal.{Gives}
use Rattle.ent_value.specs.declared.refusal.Refusal.{Refusal}
use Rattle.ent_value.specs.declared.refusal.Refusal.TheVariants.{Memory, Fault}
use Rattle.ent_form.specs.declared.fault.FormFault.{FormFault}
use Rattle.ent_form.specs.AllFaults.{fault_of, head_of}
use Rattle.ent_form.specs.FirstFault.{RefusedForFirst}
use Rattle.ent_form.specs.OpeningFault.{Check, unless}

pub headless : (faults : List FormFault) → head_of faults ≡ None → faults ≡ []
headless [] e = refl
headless (fault ∷ more) e = cc

pub first_answered : {X Y : Type 0} (view : X → Y) (result : Result X (Refusal FormFault)) (meant : Result Y FormFault)
    (faults : List FormFault)
    → fault_of meant ≡ head_of faults → Gives view result meant → RefusedForFirst faults result
first_answered view (Ok x) meant faults head gives = headless faults (sym head ∙ ap fault_of gives)
first_answered view (Err Memory) meant faults head gives = gives
first_answered view (Err (Fault fault)) meant faults head gives = sym head ∙ ap fault_of gives

-- an answer unless there is a fault is refused for that one
pub unless_fault : {A : Type 0} (check : Check) (answer : A) → fault_of (unless check answer) ≡ check
unless_fault None answer = refl
unless_fault (Some fault) answer = refl
