-- Scripts that come to wait, one by one.
use Rattle.std.proofs.Common.{◌≡◌, ◌∙◌, ◌+◌, ℕ, List, ◌∷◌, [], Bool, Option, ap, subst, sym}
use Rattle.std.specs.Prelude.{slice_get}
use Rattle.ent_admission.specs.Admission.{Admission}
use Rattle.ent_form.specs.Catalogue.{schemas_of}
use Rattle.ent_form.specs.declared.catalogue.TableSchema.{TableSchema}
use Rattle.ent_admission.specs.Passed.{Epoch}
use Rattle.ent_prepare.specs.Prepared.{IsPrepared}
use Rattle.ent_print.specs.Printing.{script_text}
use Rattle.ent_room.specs.Putting.{Puts, tables_of, with_put}
use Rattle.ent_room.specs.declared.putting.Stay.{Stay}
use Rattle.ent_tree.specs.declared.script.Script.{Script}
use Rattle.ent_waiting.specs.WaitingList.{WaitingList}
use Rattle.ent_meet.specs.Opening.{AreWaiting, stay_of}

-- one comes to wait, and then the others
pub one_comes : (first now : Admission) (said : List Bool) (number : ℕ) (script : Script) (more : List Script)
    (text : List ℕ) (asked : Option Bool) (stay : Stay) (new last : WaitingList) → now.epoch ≡ first.epoch
    → text ≡ script_text script → asked ≡ slice_get said number → stay ≡ stay_of asked → Puts now text [] stay new
    → AreWaiting (tables_of first) said (number + 1) more new last
    → AreWaiting (tables_of first) said number (script ∷ more) now.list last
one_comes first now said number script more text asked stay new last same printed told stays puts others = (
  puts.script,
  subst (λ (e : Epoch). IsPrepared (schemas_of e.core.opening.tables) (script_text script) [] puts.script) same
      (subst (λ (t : List ℕ). IsPrepared (tables_of now) t [] puts.script) printed puts.prepared),
  subst (λ (l : WaitingList). AreWaiting (tables_of first) said (number + 1) more l last)
      (puts.list ∙ ap (λ (s : Stay). with_put puts.script s now.list) (stays ∙ ap stay_of told)) others,
)
