use Rattle.std.proofs.Common.{◌≡◌, ◌∙◌, ap, refl, subst, sym}
use Rattle.ent_form.specs.Catalogue.{schemas_of}
use Rattle.ent_history.specs.Draft.{Draft}
use Rattle.ent_history.specs.Scripts.{IsScript, ScriptIsNext, ScriptStands}
use Rattle.ent_history.specs.Read.{IsRead}
use Rattle.ent_report_reader.specs.View.{due_of}
use Rattle.ent_report_reader.proofs.ScriptLines.{no_script, script_piece, script_stands}
use Rattle.ent_report_reader.proofs.draft.Draft.script.Goals as goal

pub returns-in_default : goal.returns-in_default
returns-in_default c =
    let told = c.args.self.now.told in
    let tables = c.catalogue.ensures ∙ ap (λ (d : Draft). schemas_of d.told.opening.tables) c.self.view_is in
    let read = subst (IsRead told c.args.lines.now) c.in_default.is (c.in_ok-script.ensures told tables) in
    (λ next s. no_script c.args.self.now c.args.lines.now read next s, refl)

pub returns : goal.returns
returns c =
    let told = c.args.self.now.told in
    let tables = c.catalogue.ensures ∙ ap (λ (d : Draft). schemas_of d.told.opening.tables) c.self.view_is in
    let read = subst (IsRead told c.args.lines.now) c.in-Some.is (c.in_ok-script.ensures told tables) in
    let next = c.is_script_next.ensures.0 c.if-not-is_script_next.false in
    let new : Draft = record {
      told = record {
        opening = c.self.inside.opening;
        scripts = c.push.new.self;
        transactions = c.self.inside.transactions;
        joint_answers = c.self.inside.joint_answers;
        tables = c.self.inside.tables;
      };
      due = due_of c.self.inside.due;
    } in
    subst (λ (d : Draft). ScriptStands d (script_piece d c.args.lines.now) new) c.self.view_is
    (script_stands _ c.args.lines.now c.in-Some.script (subst ScriptIsNext (sym c.self.view_is) next)
    (subst (λ (d : Draft). IsScript d.told c.in-Some.script) (sym c.self.view_is) read.0) read.1 c.push.new.self
    c.in_ok-push.ensures.ok)
