use Rattle.std.proofs.lemmas.Result.{err_from_is_err_and}
use Rattle.ent_book.specs.Report.{line}
use Rattle.ent_history.specs.Answers.{AnswerRowStands}
use Rattle.ent_report_reader.specs.Reading.{IsRowLine}
use Rattle.ent_report_reader.proofs.Steps.{refused}
use Rattle.ent_report_reader.proofs.TransactionLines.{answer_row_has}
use Rattle.ent_report_reader.proofs.draft.Draft.answer_row.Goals as goal

pub returns-in_err-row : goal.returns-in_err-row
returns-in_err-row c =
    let p = err_from_is_err_and c.from_residual.result c.from_residual.ensures.1 in
    rw (p.1, p.2)
    (refused (Unit {0}) (IsRowLine c.args.text.now) (AnswerRowStands c.args.self.now (line c.args.text.now))
    c.args.self.now c.in_err-row.field-0.0 c.in_err-row.ensures
    (λ next stands. (stands.row, answer_row_has c.args.self.now c.args.text.now next stands)))
