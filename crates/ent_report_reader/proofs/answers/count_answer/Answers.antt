use Rattle.std.proofs.lemmas.Result.{err_from_is_err_and}
use Rattle.ent_report_reader.proofs.AnswerLines.{count_read, count_refused}
use Rattle.ent_report_reader.proofs.answers.count_answer.Goals as goal

pub returns-in_err-place : goal.returns-in_err-place
returns-in_err-place c = λ statement sort.
    let p = err_from_is_err_and c.from_residual.result c.from_residual.ensures.1 in
    rw (p.1, p.2) (count_refused statement c.args.text.now c.in_err-place.field-0.0 sort c.in_err-place.ensures)

pub returns : goal.returns
returns c = λ statement sort. count_read statement c.args.text.now c.in_ok-place.place c.in_ok-place.count sort
    c.in_ok-place.ensures
