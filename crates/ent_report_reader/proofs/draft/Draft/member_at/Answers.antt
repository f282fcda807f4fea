use Rattle.std.proofs.Common.{◌≡◌, ◌∙◌, None, Some, ap, subst, sym}
use Rattle.std.specs.Option.{option_copied}
use Rattle.ent_value.specs.Refusal.{Refuses}
use Rattle.ent_form.specs.Catalogue.{schemas_of}
use Rattle.ent_form.specs.Form.{script_in}
use Rattle.ent_semantics.specs.Serial.{numbered}
use Rattle.ent_history.specs.Draft.{Draft}
use Rattle.ent_history.specs.Joints.{binds_of, member_binds}
use Rattle.ent_report_reader.proofs.MemberLines.{binds_are, bound_so, no_script, not_resolved}
use Rattle.ent_report_reader.proofs.draft.Draft.member_at.Goals as goal

pub returns-in_default-clause-found : goal.returns-in_default-clause-found
returns-in_default-clause-found c =
    let told = c.args.self.now.told in
    let at = c.args.place in
    let is = c.in_default.ensures ∙ ap (λ xs. numbered xs at.0) (c.as_slice.ensures ∙ c.deref.ensures)
    ∙ ap (λ (d : Draft). numbered d.told.scripts at.0) c.self.view_is in
    bound_so None (member_binds told at.0 at.1) at.0 at.1 c.args.text.now c.unbound_member.result
    (no_script told at.0 at.1 is) c.unbound_member.ensures

pub returns-in-Ok-clause-found : goal.returns-in-Ok-clause-found
returns-in-Ok-clause-found c =
    let told = c.args.self.now.told in
    let at = c.args.place in
    let script = c.in-Some.script.now in
    let is = c.in-Some.ensures ∙ ap (λ xs. numbered xs at.0) (c.as_slice.ensures ∙ c.deref.ensures)
    ∙ ap (λ (d : Draft). numbered d.told.scripts at.0) c.self.view_is in
    let tables = c.catalogue.ensures ∙ ap (λ (d : Draft). schemas_of d.told.opening.tables) c.self.view_is in
    let resolves = ap (λ t. script_in t script) (sym tables) ∙ c.in-Ok.ensures.form in
    let one = c.element-in-Ok.ensures
    ∙ ap (λ xs. numbered xs at.1) (c.as_slice-in-Ok.ensures ∙ c.deref-in-Ok.ensures) in
    let other = c.element-in-Ok-2.ensures
    ∙ ap (λ xs. numbered xs at.1) (c.as_slice-in-Ok-2.ensures ∙ c.deref-in-Ok-2.ensures) in
    bound_so (binds_of (option_copied c.element-in-Ok.result) (option_copied c.element-in-Ok-2.result))
    (member_binds told at.0 at.1) at.0 at.1 c.args.text.now c.statement_member.result
    (binds_are told at.0 at.1 script c.in-Ok.plain (option_copied c.element-in-Ok.result)
    (option_copied c.element-in-Ok-2.result) is resolves one other)
    c.statement_member.ensures.found

pub returns-in-Err-Fault-clause-found : goal.returns-in-Err-Fault-clause-found
returns-in-Err-Fault-clause-found c =
    let told = c.args.self.now.told in
    let at = c.args.place in
    let script = c.in-Some.script.now in
    let is = c.in-Some.ensures ∙ ap (λ xs. numbered xs at.0) (c.as_slice.ensures ∙ c.deref.ensures)
    ∙ ap (λ (d : Draft). numbered d.told.scripts at.0) c.self.view_is in
    let tables = c.catalogue.ensures ∙ ap (λ (d : Draft). schemas_of d.told.opening.tables) c.self.view_is in
    let refuses = subst (λ r. Refuses r (script_in c.catalogue.result.now.tables script)) c.in-Err-Fault.field-0-is
    c.in-Err-Fault.ensures.form in
    let resolves = ap (λ t. script_in t script) (sym tables) ∙ refuses in
    bound_so None (member_binds told at.0 at.1) at.0 at.1 c.args.text.now c.unbound_member-in-Err-Fault.result
    (not_resolved told at.0 at.1 script c.in-Err-Fault.field-0-0 is resolves) c.unbound_member-in-Err-Fault.ensures
