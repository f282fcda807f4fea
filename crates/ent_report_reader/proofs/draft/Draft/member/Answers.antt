use Rattle.std.proofs.Common.{◌≡◌, ◌∙◌, ap, subst, sym}
use Rattle.std.proofs.lemmas.Result.{err_from_is_err_and}
use Rattle.ent_book.specs.Report.{line}
use Rattle.ent_history.specs.Draft.{Draft, members_due}
use Rattle.ent_history.specs.Joints.{MemberStands, member_binds}
use Rattle.ent_report_reader.specs.Members.{IsMemberLine}
use Rattle.ent_report_reader.specs.View.{due_of, members_behind}
use Rattle.ent_report_reader.proofs.MemberLines.{member_refused, member_stands, place_due}
use Rattle.ent_report_reader.proofs.draft.Draft.member.Goals as goal

pub returns-in_err-told-clause-judged : goal.returns-in_err-told-clause-judged
returns-in_err-told-clause-judged c =
    let due = due_of c.self.inside.due in
    let is = sym (ap (λ (d : Draft). d.due) c.self.view_is) ∙ place_due due c.in-Some.place c.in-Some.ensures.some in
    let p = err_from_is_err_and c.from_residual.result c.from_residual.ensures.1 in
    rw (p.1, p.2)
    (member_refused (Unit {0}) c.args.self.now c.args.text.now c.in-Some.place (members_behind due)
    c.in_err-told.field-0.0 is c.in_err-told.ensures.found)

pub returns-clause-judged : goal.returns-clause-judged
returns-clause-judged c =
    let due = due_of c.self.inside.due in
    let at = c.in-Some.place in
    let is = place_due due at c.in-Some.ensures.some in
    let found = subst (λ (d : Draft). IsMemberLine (member_binds d.told at.0 at.1) at.0 at.1 c.args.text.now
    c.in_ok-told.told)
    (sym c.self.view_is) c.in_ok-told.ensures.found in
    let new : Draft = record {
      told = record {
        opening = c.self.inside.opening;
        scripts = c.self.inside.scripts;
        transactions = c.self.inside.transactions;
        joint_answers = c.put_member.new.joint_answers;
        tables = c.self.inside.tables;
      };
      due = due_of c.behind_member.result;
    } in
    subst (λ (d : Draft). MemberStands d (line c.args.text.now) new) c.self.view_is
    (member_stands _ c.args.text.now at.0 at.1 (members_behind due) c.in_ok-told.told is found
    c.put_member.new.joint_answers c.in_ok-put_member.ensures (due_of c.behind_member.result)
    (c.behind_member.ensures.due ∙ ap (λ h. members_due (members_behind (due_of h))) c.replace.ensures.value))
