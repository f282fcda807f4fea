use Rattle.std.proofs.Common.{◌≡◌, ◌++◌, [], false, true, map, is_some, sym, ap, ◌∙◌, append_assoc}
use Rattle.ent_history.specs.Told.{joint_answer_of}
use Rattle.ent_history.specs.Account.{accounts, accounts_from, in_commit_order}
use Rattle.ent_history.specs.Joint.{left_out_findings, members_findings}
use Rattle.ent_history.specs.Journal.{journal_findings}
use Rattle.ent_history.specs.Placed.{placed}
use Rattle.ent_history.specs.Post.{post_findings}
use Rattle.ent_history.specs.Replay.{replay_findings, told_end, told_read_views}
use Rattle.ent_history.specs.Table.{end_findings}
use Rattle.ent_history.specs.Verdict.{first_of}
use Rattle.ent_semantics.specs.Book.{all_members}
use Rattle.ent_semantics.specs.Database.{opening_database}
use Rattle.ent_check.proofs.Numbers.{first_none}
use Rattle.ent_check_report.proofs.Rules.{found_here, nothing_found}
use Rattle.ent_check_report.proofs.first.first_noted.Goals as goal

pub returns-then-is_some-2 : goal.returns-then-is_some-2
returns-then-is_some-2 c =
    let history = c.args.history.now in
    let declared = history.opening.tables in
    let all = accounts history in
    let joints = map joint_answer_of history.joint_answers in
    let first = opening_database history.opening in
    let own = journal_findings all in
    let members = members_findings all 1 [] joints in
    let left = left_out_findings (all_members joints) all in
    let rest = replay_findings declared (placed joints) (in_commit_order all) first
    ++ (post_findings (told_read_views declared (placed joints) (in_commit_order all) first) 1 joints
    ++ end_findings (told_end declared (placed joints) (in_commit_order all) first) history.tables) in
    let all_are : accounts_from 1 c.as_slice-scripts.result.now c.as_slice-transactions.result.now ≡ all =
    λ i. accounts_from 1 (c.as_slice-scripts.ensures i) (c.as_slice-transactions.ensures i) in
    let joints_are : map joint_answer_of c.as_slice-joints.result.now ≡ joints =
    ap (map joint_answer_of) c.as_slice-joints.ensures in
    let isnt : is_some c.in_ok-journal.journal ≡ false = sym c.is_some.ensures ∙ c.if-is_some.false in
    let some : is_some c.joint_finding-joint.result ≡ true = sym c.is_some-2.ensures ∙ c.if-is_some-2.true in
    let none = nothing_found own c.in_ok-journal.journal
    (c.in_ok-journal.ensures ∙ ap (λ xs. first_of (journal_findings xs)) all_are) isnt in
    let found = c.joint_finding-joint.ensures
    ∙ (λ i. first_of (members_findings (all_are i) 1 [] (joints_are i)
    ++ left_out_findings (all_members (joints_are i)) (all_are i))) in
    found_here (members ++ left) rest c.joint_finding-joint.result found some
    ∙ ap first_of (append_assoc members left rest)
    ∙ sym (first_none own (members ++ (left ++ rest)) none)
