-- What breaks the rules in a history, in the order of the rules, and of each rule from the top.
use Rattle.std.specs.Prelude.{List, [], ◌++◌, map}
use Rattle.ent_semantics.specs.Book.{all_members}
use Rattle.ent_semantics.specs.Database.{opening_database}
use Rattle.ent_history.specs.declared.history.History.{History}
use Rattle.ent_history.specs.Told.{joint_answer_of}
use Rattle.ent_history.specs.Account.{accounts, in_commit_order}
use Rattle.ent_history.specs.Joint.{members_findings, left_out_findings}
use Rattle.ent_history.specs.Journal.{journal_findings}
use Rattle.ent_history.specs.Placed.{placed}
use Rattle.ent_history.specs.Post.{post_findings}
use Rattle.ent_history.specs.Replay.{replay_findings, told_read_views, told_end}
use Rattle.ent_history.specs.Table.{end_findings}
use Rattle.ent_history.specs.declared.finding.Finding.{Finding}

-- The first of them is what a check names. What stands behind it is of no interest: a run goes on only from what was
-- found right.
abbrev pub findings : History → List Finding
findings history =
    let declared = history.opening.tables in
    let all = accounts history in
    let joints = map joint_answer_of history.joint_answers in
    let members = placed joints in
    let first = opening_database history.opening in
    journal_findings all
    ++ (members_findings all 1 [] joints
    ++ (left_out_findings (all_members joints) all
    ++ (replay_findings declared members (in_commit_order all) first
    ++ (post_findings (told_read_views declared members (in_commit_order all) first) 1 joints
    ++ end_findings (told_end declared members (in_commit_order all) first) history.tables))))
