-- Scripts of an input that come to wait, one by one.
use Rattle.std.proofs.Common.{◌≡◌, List, [], ◌∷◌, ◌++◌, None, Some, Result, Ok, Err, refl}
use Rattle.std.specs.Result.{result_err}
use Rattle.ent_value.specs.Refusal.{◌>>=◌}
use Rattle.ent_form.specs.Catalogue.{schemas_of}
use Rattle.ent_form.specs.Form.{script_in}
use Rattle.ent_form.specs.InputFault.{scripts_fault}
use Rattle.ent_form.specs.OpeningFault.{Check, ◌before◌}
use Rattle.ent_form.specs.declared.fault.FormFault.{FormFault}
use Rattle.ent_form.specs.declared.script.Plain.{Plain}
use Rattle.ent_tree.specs.declared.declaration.Opening.{Opening}
use Rattle.ent_tree.specs.declared.script.Script.{Script}
use Rattle.ent_admission.specs.Passed.{resolved_forms}
use Rattle.ent_admission.specs.Admission.{IsFormed}
use Rattle.ent_waiting.specs.WaitingList.{WaitingList}
use Rattle.ent_room.specs.Putting.{with_put}
use Rattle.ent_room.specs.Reading.{all_put}
use Rattle.ent_room.specs.declared.putting.Stay.TheVariants.{AsWritten}

pub one_more_put : (taken : List Script) (script : Script) (list : WaitingList)
    → all_put (taken ++ script ∷ []) list ≡ with_put script AsWritten (all_put taken list)
one_more_put [] script list = refl
one_more_put (first ∷ more) script list = one_more_put more script (with_put first AsWritten list)

-- ---- faults of form

none_of_both : (first rest : Check) → first before rest ≡ None → (first ≡ None) × (rest ≡ None)
none_of_both None rest e = (refl, e)
none_of_both (Some fault) rest e = absurd cc

has_form : (opening : Opening) (script : Script) → result_err (resolved_forms.resolve opening script) ≡ None
    → IsFormed opening script
has_form opening script clean = by (script_in (schemas_of opening.tables) script) refl clean
  where
    by : (form : Result Plain FormFault) → script_in (schemas_of opening.tables) script ≡ form
        → result_err (form >>= λ plain. Ok plain.statements) ≡ None → IsFormed opening script
    by (Ok plain) is none = (plain, is)
    by (Err fault) is none = absurd (let e : Some fault ≡ None = none in cc)

-- where no script has a fault, the first has none, and those behind it have none
pub formed_first : (opening : Opening) (script : Script) (more : List Script)
    → scripts_fault opening (script ∷ more) ≡ None → IsFormed opening script × (scripts_fault opening more ≡ None)
formed_first opening script more clean =
    let both = none_of_both (result_err (resolved_forms.resolve opening script)) (scripts_fault opening more) clean in
    (has_form opening script both.0, both.1)
