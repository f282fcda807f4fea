-- What a step that gave something tells, and what a check that found nothing does.
use Rattle.std.proofs.Common.{◌≡◌, Bool, true, false, Option, Some, None, Result, Ok, refl}
use Rattle.std.specs.Prelude.{if◌then◌else◌}
use Rattle.ent_form.specs.declared.fault.FormFault.{FormFault}
use Rattle.ent_form.specs.OpeningFault.{Check, ◌before◌, refused_where, where_there}
use Rattle.ent_form.specs.Steps.{demand}

-- ---- steps

pub one_answer : {A E : Type 0} (x y : A) → ◌≡◌ {A = Result A E} (Ok x) (Ok y) → x ≡ y
one_answer x y e = cc

pub demand_given : {A : Type 0} (test : Bool) (fault : FormFault) (more : Result A FormFault) (y : A)
    → demand test fault more ≡ Ok y → (test ≡ true) × (more ≡ Ok y)
demand_given true fault more y e = (refl, e)
demand_given false fault more y e = cc

-- ---- checks

pub nothing_first : (check later : Check) → (check before later) ≡ None → check ≡ None
nothing_first None later e = refl
nothing_first (Some fault) later e = cc

pub nothing_later : (check later : Check) → (check before later) ≡ None → later ≡ None
nothing_later None later e = e
nothing_later (Some fault) later e = cc

pub both_nothing : (check later : Check) → check ≡ None → later ≡ None → (check before later) ≡ None
both_nothing None later first rest = rest
both_nothing (Some fault) later first rest = first

pub not_refused : (test : Bool) (fault : FormFault) → refused_where test fault ≡ None → test ≡ false
not_refused true fault e = cc
not_refused false fault e = refl

pub held : (test : Bool) (fault : FormFault) → (if test then None else Some fault) ≡ None → test ≡ true
held true fault e = refl
held false fault e = cc

pub found_there : {A : Type 0} (found : Option A) (fault : FormFault) (check : A → Check)
    → where_there found fault check ≡ None → (x : A) × (found ≡ Some x) × (check x ≡ None)
found_there None fault check e = cc
found_there (Some x) fault check e = (x, refl, e)
