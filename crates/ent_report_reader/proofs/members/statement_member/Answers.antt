use Rattle.std.proofs.Common.{◌≡◌, ◌∙◌, List, None, Some, subst, sym}
use Rattle.std.specs.Option.{option_copied}
use Rattle.ent_value.specs.declared.value.Kind.{Kind}
use Rattle.ent_semantics.specs.Entangled.{written_variables}
use Rattle.ent_history.specs.Joints.{binds_of}
use Rattle.ent_report_reader.specs.Judging.{Finds}
use Rattle.ent_report_reader.specs.Members.{IsMemberLine}
use Rattle.ent_report_reader.proofs.MemberLines.{bound_both, bound_so, no_entangled, no_entangled_form, some_binds}
use Rattle.ent_report_reader.proofs.members.statement_member.Goals as goal

pub returns-in_default-clause-found : goal.returns-in_default-clause-found
returns-in_default-clause-found c =
    let statement = option_copied c.args.statement in
    let form = option_copied c.args.form in
    bound_so None (binds_of statement form) c.args.place.0 c.args.place.1 c.args.text.now c.unbound_member.result
    (no_entangled statement form (sym c.in_default.ensures)) c.unbound_member.ensures

pub returns-in_default-form_of-clause-found : goal.returns-in_default-form_of-clause-found
returns-in_default-form_of-clause-found c =
    let statement = option_copied c.args.statement in
    let form = option_copied c.args.form in
    bound_so None (binds_of statement form) c.args.place.0 c.args.place.1 c.args.text.now
    c.unbound_member-in_default-form_of.result
    (no_entangled_form statement form (sym c.in_default-form_of.ensures)) c.unbound_member-in_default-form_of.ensures

pub returns-clause-found : goal.returns-clause-found
returns-clause-found c =
    let statement = option_copied c.args.statement in
    let form = option_copied c.args.form in
    let entangled = c.in-Some.entangled.now in
    let own = c.in-Some-form_of.form.now in
    let at = c.args.place in
    bound_so (some_binds entangled own) (binds_of statement form) at.0 at.1 c.args.text.now c.entangled_member.result
    (bound_both statement form entangled own c.in-Some.ensures c.in-Some-form_of.ensures)
    (subst (λ (kinds : List Kind). Finds
    (IsMemberLine (Some (written_variables entangled, kinds)) at.0 at.1 c.args.text.now)
    c.entangled_member.result)
    c.as_slice.ensures c.entangled_member.ensures.found)
