use Rattle.std.proofs.Common.{◌≡◌, ◌+◌, ◌<◌, ◌∙◌, ap, length, refl, sym, true, false, arith}
use Rattle.std.proofs.lemmas.Result.{err_from_is_err_and}
use Rattle.ent_book.specs.Report.{line}
use Rattle.ent_history.specs.Draft.{Draft}
use Rattle.ent_history.specs.Joints.{JointStands}
use Rattle.ent_report_reader.specs.Reading.{IsJointLine}
use Rattle.ent_report_reader.proofs.Steps.{refused}
use Rattle.ent_report_reader.proofs.JointLines.{joint_has, next_joint, other_joint}
use Rattle.ent_report_reader.proofs.MemberLines.{are_numbers}
use Rattle.ent_report_reader.proofs.draft.Draft.joint.Goals as goal

pub returns-in_err-number : goal.returns-in_err-number
returns-in_err-number c =
    let p = err_from_is_err_and c.from_residual.result c.from_residual.ensures.1 in
    let seen = ap (λ (d : Draft). length d.told.joint_answers) c.self.view_is in
    let few : length c.args.self.now.told.joint_answers < 9223372036854775807 =
    omega (arith, seen, c.len-before.ensures, c.if-before-ge-MOST_NUMBERS.false) in
    rw (p.1, p.2)
    (refused (Unit {0}) (IsJointLine c.args.text.now) (JointStands c.args.self.now (line c.args.text.now))
    c.args.self.now c.in_err-number.field-0.0 c.in_err-number.ensures
    (λ next stands. (
      (next_joint c.args.self.now, stands.places),
      joint_has c.args.self.now c.args.text.now few next stands,
    )))

pub returns-then-not-is_next : goal.returns-then-not-is_next
returns-then-not-is_next c =
    let seen = ap (λ (d : Draft). length d.told.joint_answers) c.self.view_is in
    let few : length c.args.self.now.told.joint_answers < 9223372036854775807 =
    omega (arith, seen, c.len-before.ensures, c.if-before-ge-MOST_NUMBERS.false) in (
      λ next stands.
          let e = c.in_ok-number.ensures.1 (next_joint c.args.self.now, stands.places)
          (joint_has c.args.self.now c.args.text.now few next stands) in
          let same = other_joint (next_joint c.args.self.now) c.in_ok-number.number stands.places
          c.in_ok-number.places e in
          let is : c.in_ok-number.number ≡ c.len-before.result + 1 = omega (arith, same, c.len-before.ensures, seen) in
          let both : false ≡ true = sym c.if-not-is_next.true ∙ c.is_next.ensures.1 is in cc,
      refl,
    )

pub of_members-requires : goal.of_members-requires
of_members-requires c = are_numbers c.in_ok-number.places c.in_ok-number.ensures.0.3
