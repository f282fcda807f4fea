use Rattle.ent_book.specs.Report.{line}
use Rattle.ent_history.specs.Joints.{JointStands}
use Rattle.ent_history.specs.Tables.{EndStands, TableStands}
use Rattle.ent_history.specs.Stands as stands
use Rattle.ent_report_reader.proofs.Taking.{below_last, below_second, judged_false, judged_so, judged_true}
use Rattle.ent_report_reader.proofs.draft.Draft.line_below.Goals as goal

pub returns-then-joins : goal.returns-then-joins
returns-then-joins c =
    stands.Joint
    (judged_true (JointStands c.args.self.now (line c.args.text.now)) c.args.self.now c.joint.new.self
    c.joint.result c.in_ok-joins.joins c.if-joins.true c.in_ok-joins.ensures c.joint.ensures)

pub returns-then-shows : goal.returns-then-shows
returns-then-shows c =
    below_second c.args.self.now c.joint.new.self c.table.new.self c.args.text.now
    (judged_false (JointStands c.args.self.now (line c.args.text.now)) c.args.self.now c.joint.new.self
    c.joint.result c.in_ok-joins.joins c.if-joins.false c.in_ok-joins.ensures c.joint.ensures)
    (judged_true (TableStands c.joint.new.self (line c.args.text.now)) c.joint.new.self c.table.new.self c.table.result
    c.in_ok-shows.shows c.if-shows.true c.in_ok-shows.ensures c.table.ensures)

pub returns : goal.returns
returns c =
    below_last c.args.self.now c.joint.new.self c.table.new.self c.end.new.self c.args.text.now c.stands-3.result
    (judged_false (JointStands c.args.self.now (line c.args.text.now)) c.args.self.now c.joint.new.self
    c.joint.result c.in_ok-joins.joins c.if-joins.false c.in_ok-joins.ensures c.joint.ensures)
    (judged_false (TableStands c.joint.new.self (line c.args.text.now)) c.joint.new.self c.table.new.self c.table.result
    c.in_ok-shows.shows c.if-shows.false c.in_ok-shows.ensures c.table.ensures)
    (judged_so (EndStands c.table.new.self (line c.args.text.now)) c.table.new.self c.end.new.self c.end.result
    c.stands-3.result c.stands-3.ensures c.end.ensures)
