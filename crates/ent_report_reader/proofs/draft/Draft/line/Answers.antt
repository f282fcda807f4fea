use Rattle.std.proofs.Common.{◌≡◌, ◌∙◌, ap, reverse, sym}
use Rattle.ent_book.specs.Report.{line}
use Rattle.ent_history.specs.Draft.{Draft}
use Rattle.ent_history.specs.Opening.{OpeningRowStands}
use Rattle.ent_history.specs.Answers.{AnswerRowStands}
use Rattle.ent_history.specs.Joints.{MemberStands}
use Rattle.ent_history.specs.Tables.{TableRowStands}
use Rattle.ent_history.specs.Stands as stands
use Rattle.ent_report_reader.specs.Members.{MemberHasWords}
use Rattle.ent_report_reader.specs.View.{due_of}
use Rattle.ent_report_reader.proofs.Taking.{free_step, judged_so, known_so, member_step, no_answer_row, no_opening_row}
use Rattle.ent_report_reader.proofs.Taking.{no_table_row, only_step}
use Rattle.ent_report_reader.proofs.draft.Draft.line.Goals as goal

pub returns-in-OpeningRows : goal.returns-in-OpeningRows
returns-in-OpeningRows c =
    let due = sym (ap (λ (d : Draft). d.due) c.self.view_is) ∙ ap due_of c.in-OpeningRows.is in
    let able = OpeningRowStands c.args.self.now (line c.args.text.now) in
    only_step able c.args.self.now c.opening_row.new.self c.args.text.now c.stands-in-OpeningRows.result
    (λ s. stands.OpeningRow s)
    (no_opening_row c.args.self.now (line c.args.text.now) c.in-OpeningRows.more due)
    (judged_so able c.args.self.now c.opening_row.new.self c.opening_row.result c.stands-in-OpeningRows.result
    c.stands-in-OpeningRows.ensures
    c.opening_row.ensures)

pub returns-in-AnswerRows : goal.returns-in-AnswerRows
returns-in-AnswerRows c =
    let due = sym (ap (λ (d : Draft). d.due) c.self.view_is) ∙ ap due_of c.in-AnswerRows.is in
    let able = AnswerRowStands c.args.self.now (line c.args.text.now) in
    only_step able c.args.self.now c.answer_row.new.self c.args.text.now c.stands-in-AnswerRows.result
    (λ s. stands.AnswerRow s)
    (no_answer_row c.args.self.now (line c.args.text.now) c.in-AnswerRows.more due)
    (judged_so able c.args.self.now c.answer_row.new.self c.answer_row.result c.stands-in-AnswerRows.result
    c.stands-in-AnswerRows.ensures
    c.answer_row.ensures)

pub returns-in-TableRows : goal.returns-in-TableRows
returns-in-TableRows c =
    let due = sym (ap (λ (d : Draft). d.due) c.self.view_is) ∙ ap due_of c.in-TableRows.is in
    let able = TableRowStands c.args.self.now (line c.args.text.now) in
    only_step able c.args.self.now c.table_row.new.self c.args.text.now c.stands-in-TableRows.result
    (λ s. stands.TableRow s)
    (no_table_row c.args.self.now (line c.args.text.now) c.in-TableRows.more due)
    (judged_so able c.args.self.now c.table_row.new.self c.table_row.result c.stands-in-TableRows.result
    c.stands-in-TableRows.ensures
    c.table_row.ensures)

pub returns-in-Members : goal.returns-in-Members
returns-in-Members c =
    let due = sym (ap (λ (d : Draft). d.due) c.self.view_is) ∙ ap due_of c.in-Members.is in
    let able = MemberStands c.args.self.now (line c.args.text.now) in
    let result = c.stands-in-Members.result in
    member_step c.args.self.now c.member.new.self c.args.text.now c.in-Members.tx c.in-Members.place
    (reverse c.in-Members.more.items) result due
    (known_so (MemberHasWords c.args.self.now) c.member.result result c.stands-in-Members.ensures
    c.member.ensures.words)
    (judged_so able c.args.self.now c.member.new.self c.member.result result c.stands-in-Members.ensures
    c.member.ensures.judged)

pub returns-in-Free : goal.returns-in-Free
returns-in-Free c =
    let due = sym (ap (λ (d : Draft). d.due) c.self.view_is) ∙ ap due_of c.in-Free.is in
    free_step c.args.self.now c.free_line.new.self c.args.text.now c.free_line.result due c.free_line.ensures
