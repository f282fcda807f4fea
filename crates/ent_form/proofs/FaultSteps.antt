-- The first fault of steps, one after the other.
use Rattle.std.proofs.Common.{◌≡◌, Bool, true, false, not, List, [], ◌∷◌, ◌++◌, Option, Some, None, Result, Ok, Err}
use Rattle.std.proofs.Common.{refl}
use Rattle.std.specs.Prelude.{is_none, if◌then◌else◌}
use Rattle.std.specs.List.{flat_map}
use Rattle.ent_value.specs.Refusal.{◌>>=◌}
use Rattle.ent_form.specs.declared.fault.FormFault.{FormFault}
use Rattle.ent_form.specs.OpeningFault.{Check, ◌before◌, refused_where, first_of, where_there}
use Rattle.ent_form.specs.Steps.{there, demand}
use Rattle.ent_form.specs.AllFaults.{fault_of, head_of, faults_where, faults_at, unless_any}

-- ---- checks

pub head_before : (check later : Check) (earlier more : List FormFault) → check ≡ head_of earlier
    → later ≡ head_of more → (check before later) ≡ head_of (earlier ++ more)
head_before None later [] more e f = f
head_before None later (fault ∷ earlier) more e f = cc
head_before (Some fault) later [] more e f = cc
head_before (Some fault) later (first ∷ earlier) more e f = e

pub head_refused : (test : Bool) (fault : FormFault) → refused_where test fault ≡ head_of (faults_where test fault)
head_refused true fault = refl
head_refused false fault = refl

pub head_kept : (test : Bool) (fault : FormFault)
    → (if test then None else Some fault) ≡ head_of (faults_where (not test) fault)
head_kept true fault = refl
head_kept false fault = refl

pub head_first : {A : Type 0} (check : A → Check) (faults : A → List FormFault)
    → ((x : A) → check x ≡ head_of (faults x)) → (xs : List A) → first_of check xs ≡ head_of (flat_map faults xs)
head_first check faults each [] = refl
head_first check faults each (x ∷ xs) =
    head_before (check x) (first_of check xs) (faults x) (flat_map faults xs) (each x) (head_first check faults each xs)

pub head_where_there : {A : Type 0} (found : Option A) (fault : FormFault) (check : A → Check)
    (faults : A → List FormFault)
    → ((x : A) → check x ≡ head_of (faults x)) → where_there found fault check ≡ head_of (faults_at found fault faults)
head_where_there None fault check faults each = refl
head_where_there (Some x) fault check faults each = each x

-- ---- forms

pub head_then : {A B : Type 0} (first : Result A FormFault) (next : A → Result B FormFault)
    (earlier later : List FormFault)
    → fault_of first ≡ head_of earlier → ((x : A) → first ≡ Ok x → fault_of (next x) ≡ head_of later)
    → fault_of (first >>= next) ≡ head_of (earlier ++ later)
head_then (Ok x) next [] later e f = f x refl
head_then (Ok x) next (fault ∷ earlier) later e f = cc
head_then (Err fault) next [] later e f = cc
head_then (Err fault) next (first ∷ earlier) later e f = e

-- the last step makes a form of what was found
pub head_last : {A B : Type 0} (first : Result A FormFault) (made : A → B) (faults : List FormFault)
    → fault_of first ≡ head_of faults → fault_of (first >>= λ x. Ok (made x)) ≡ head_of faults
head_last (Ok x) made faults e = e
head_last (Err fault) made faults e = e

-- what comes after counts where there was none
pub head_unless : {A B : Type 0} (first : Result A FormFault) (next : A → Result B FormFault)
    (earlier later : List FormFault)
    → fault_of first ≡ head_of earlier → ((x : A) → first ≡ Ok x → fault_of (next x) ≡ head_of later)
    → fault_of (first >>= next) ≡ head_of (unless_any earlier later)
head_unless (Ok x) next [] later e f = f x refl
head_unless (Ok x) next (fault ∷ earlier) later e f = cc
head_unless (Err fault) next [] later e f = cc
head_unless (Err fault) next (first ∷ earlier) later e f = e

pub head_at : {A B : Type 0} (found : Option A) (fault : FormFault) (next : A → Result B FormFault)
    (faults : A → List FormFault)
    → ((x : A) → found ≡ Some x → fault_of (next x) ≡ head_of (faults x))
    → fault_of (there found fault >>= next) ≡ head_of (faults_at found fault faults)
head_at None fault next faults each = refl
head_at (Some x) fault next faults each = each x refl

pub head_there : {A B : Type 0} (found : Option A) (fault : FormFault) (next : A → Result B FormFault)
    (later : List FormFault)
    → ((x : A) → found ≡ Some x → fault_of (next x) ≡ head_of later)
    → fault_of (there found fault >>= next) ≡ head_of (faults_where (is_none found) fault ++ later)
head_there None fault next later f = refl
head_there (Some x) fault next later f = f x refl

pub head_demand : {A : Type 0} (test : Bool) (fault : FormFault) (more : Result A FormFault) (later : List FormFault)
    → fault_of more ≡ head_of later
    → fault_of (demand test fault more) ≡ head_of (faults_where (not test) fault ++ later)
head_demand true fault more later e = e
head_demand false fault more later e = refl

pub head_new : {A : Type 0} (test : Bool) (fault : FormFault) (more : Result A FormFault) (later : List FormFault)
    → fault_of more ≡ head_of later
    → fault_of (demand (not test) fault more) ≡ head_of (faults_where test fault ++ later)
head_new true fault more later e = refl
head_new false fault more later e = e

pub head_demanded : {A : Type 0} (test : Bool) (fault : FormFault) (x : A)
    → fault_of (demand test fault (Ok x)) ≡ head_of (faults_where (not test) fault)
head_demanded true fault x = refl
head_demanded false fault x = refl
