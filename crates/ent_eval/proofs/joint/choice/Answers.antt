use Rattle.std.proofs.Common.{◌≡◌, List, sym, subst}
use Rattle.std.specs.Prelude.{MatchOption, Option}
use Rattle.std.proofs.lemmas.Result.{IfOk-weaker}
use Rattle.ent_semantics.specs.Choice.{IsLeastChoiceIfAny}
use Rattle.ent_semantics.specs.Pool.{Posted}
use Rattle.ent_join.specs.Laid.{AreLaid}
use Rattle.ent_join.specs.Plans.{HaveNoPlan, Plan}
use Rattle.ent_protocol.specs.Job.{tables_of}
use Rattle.ent_eval.proofs.Chosen.{are_laid, no_choice}
use Rattle.ent_eval.proofs.joint.choice.Goals as goal

pub returns-in-None : goal.returns-in-None
returns-in-None c =
    let members = c.args.asked.now in
    let P : Option Plan → Type 0 = λ plan. MatchOption plan (HaveNoPlan members) (λ plan. plan.members ≡ members) in
    no_choice (tables_of c.args.tables.now) members (subst P c.in-None.is c.in_ok-plan_of.ensures)

pub returns-in-Some : goal.returns-in-Some
returns-in-Some c =
    let asked = c.args.asked.now in
    let tables = c.args.tables.now in
    let P : Option Plan → Type 0 = λ plan. MatchOption plan (HaveNoPlan asked) (λ plan. plan.members ≡ asked) in
    let named : c.in-Some.plan.members ≡ asked = subst P c.in-Some.is c.in_ok-plan_of.ensures in
    let laid : AreLaid c.in-Some.plan.members tables (tables_of tables) =
    subst (λ (members : List Posted). AreLaid members tables (tables_of tables)) (sym named)
    (are_laid asked tables c.requires) in
    IfOk-weaker c.first.result _ _ (λ choice least.
    subst (λ (members : List Posted). IsLeastChoiceIfAny (tables_of tables) members choice) named
    (least (tables_of tables) laid)) c.first.ensures
