use Rattle.std.proofs.Common.{◌≡◌, ◌++◌, [], false, true, List, map, None, IfOk, is_some, sym, ap, subst, ◌∙◌}
use Rattle.std.specs.Arc.{arc_value}
use Rattle.ent_history.specs.Told.{joint_answer_of}
use Rattle.ent_history.specs.declared.history.ToldJoint.{ToldJoint}
use Rattle.ent_form.specs.Tables.{database_of}
use Rattle.ent_history.specs.Account.{accounts, in_commit_order}
use Rattle.ent_history.specs.Joint.{left_out_findings, members_findings}
use Rattle.ent_history.specs.Placed.{placed}
use Rattle.ent_history.specs.Post.{post_findings}
use Rattle.ent_history.specs.Replay.{replay_findings, told_end, told_read_views}
use Rattle.ent_history.specs.Table.{end_findings, tables_findings}
use Rattle.ent_history.specs.Verdict.{first_of}
use Rattle.ent_history.specs.declared.finding.Finding.{Finding}
use Rattle.ent_ordinary.specs.Tables.{rows_in}
use Rattle.ent_semantics.specs.Book.{all_members}
use Rattle.ent_semantics.specs.Database.{opening_database}
use Rattle.ent_check.proofs.Numbers.{first_none}
use Rattle.ent_check.proofs.Next.{none_there}
use Rattle.ent_check_report.proofs.Rules.{found_here, found_later, nothing_found}
use Rattle.ent_check_report.proofs.first.run_finding.Goals as goal

pub returns-then-is_some-2 : goal.returns-then-is_some-2
returns-then-is_some-2 c =
    let history = c.args.history.now in
    let declared = history.opening.tables in
    let all = accounts history in
    let joints = map joint_answer_of history.joint_answers in
    let first = opening_database history.opening in
    let own = replay_findings declared (placed joints) (in_commit_order all) first in
    let run = told_read_views declared (placed joints) (in_commit_order all) first in
    let posts = post_findings run 1 joints in
    let end = end_findings (told_end declared (placed joints) (in_commit_order all) first) history.tables in
    let finding = c.in_ok-finding.field-0.finding in
    let isnt : is_some finding ≡ false = sym c.is_some.ensures ∙ c.if-is_some.false in
    let some : is_some c.in_ok-post.post ≡ true = sym c.is_some-2.ensures ∙ c.if-is_some-2.true in
    let joined = subst (λ (told : List ToldJoint). first_of (members_findings all 1 [] (map joint_answer_of told)
    ++ left_out_findings (all_members (map joint_answer_of told)) all) ≡ None) (sym c.as_slice-joints.ensures)
    c.requires.joined in
    let found = c.in_ok-post.ensures all run joined
    (c.in_ok-finding.ensures.offers (none_there finding isnt))
    ∙ ap (λ (told : List ToldJoint). first_of (post_findings run 1 (map joint_answer_of told)))
    c.as_slice-joints.ensures in
    found_here posts end c.in_ok-post.post found some
    ∙ sym (first_none own (posts ++ end) (nothing_found own finding c.in_ok-finding.ensures.finding isnt))

pub returns : goal.returns
returns c =
    let history = c.args.history.now in
    let declared = history.opening.tables in
    let all = accounts history in
    let joints = map joint_answer_of history.joint_answers in
    let first = opening_database history.opening in
    let own = replay_findings declared (placed joints) (in_commit_order all) first in
    let run = told_read_views declared (placed joints) (in_commit_order all) first in
    let posts = post_findings run 1 joints in
    let end = end_findings (told_end declared (placed joints) (in_commit_order all) first) history.tables in
    let finding = c.in_ok-finding.field-0.finding in
    let isnt : is_some finding ≡ false = sym c.is_some.ensures ∙ c.if-is_some.false in
    let nor : is_some c.in_ok-post.post ≡ false = sym c.is_some-2.ensures ∙ c.if-is_some-2.false in
    let none = none_there finding isnt in
    let joined = subst (λ (told : List ToldJoint). first_of (members_findings all 1 [] (map joint_answer_of told)
    ++ left_out_findings (all_members (map joint_answer_of told)) all) ≡ None) (sym c.as_slice-joints.ensures)
    c.requires.joined in
    let found = c.in_ok-post.ensures all run joined (c.in_ok-finding.ensures.offers none)
    ∙ ap (λ (told : List ToldJoint). first_of (post_findings run 1 (map joint_answer_of told)))
    c.as_slice-joints.ensures in
    let creates_are = c.as_slice.ensures ∙ c.deref.ensures in
    let same : tables_findings 1 (database_of c.as_slice.result.now (rows_in (map arc_value c.as_slice-2.result.now)))
    c.as_slice-3.result.now ≡ end =
    (λ i. tables_findings 1 (database_of (creates_are i) (rows_in (map arc_value (c.as_slice-2.ensures.value i))))
    (c.as_slice-3.ensures i))
    ∙ ap (λ left. end_findings left history.tables) (sym (c.in_ok-finding.ensures.tables none)) in
    found_later own (posts ++ end) c.tables_finding.result
    (nothing_found own finding c.in_ok-finding.ensures.finding isnt)
    (found_later posts end c.tables_finding.result (nothing_found posts c.in_ok-post.post found nor)
    (subst (λ (made : List Finding). IfOk c.tables_finding.result (λ one. one ≡ first_of made)) same
    c.tables_finding.ensures))
