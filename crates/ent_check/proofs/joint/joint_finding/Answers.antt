use Rattle.std.proofs.Common.{◌≡◌, [], true, false, sym, ap, ◌∙◌, is_some}
use Rattle.ent_semantics.specs.Book.{all_members}
use Rattle.ent_history.specs.Account.{accounts_from}
use Rattle.ent_history.specs.Joint.{left_out_findings, members_findings}
use Rattle.ent_history.specs.Placed.{placed}
use Rattle.ent_history.specs.Verdict.{first_of}
use Rattle.ent_check.proofs.Joints.{members_placed}
use Rattle.ent_check.proofs.LeftOut.{first_kept, first_skipped}
use Rattle.ent_check.proofs.Taken.{answers_told}
use Rattle.ent_check.proofs.joint.joint_finding.Goals as goal

pub returns-then-is_some : goal.returns-then-is_some
returns-then-is_some c =
    let all = accounts_from 1 c.args.scripts.now c.args.transactions.now in
    let joints = answers_told c.args.joints.now in
    let is : is_some c.members_finding-finding.result ≡ true = sym c.is_some.ensures ∙ c.if-is_some.true in
    c.members_finding-finding.ensures
    ∙ sym (first_kept (members_findings all 1 [] joints) (left_out_findings (all_members joints) all)
    (ap is_some (sym c.members_finding-finding.ensures) ∙ is))

pub returns : goal.returns
returns c =
    let all = accounts_from 1 c.args.scripts.now c.args.transactions.now in
    let joints = answers_told c.args.joints.now in
    let is : is_some c.members_finding-finding.result ≡ false = sym c.is_some.ensures ∙ c.if-is_some.false in
    c.left_out_finding.ensures (placed joints) c.requires
    ∙ ap (λ ms. first_of (left_out_findings ms all)) (members_placed 1 joints)
    ∙ sym (first_skipped (members_findings all 1 [] joints) (left_out_findings (all_members joints) all)
    (ap is_some (sym c.members_finding-finding.ensures) ∙ is))
