use Rattle.std.proofs.Common.{◌∙◌, ap}
use Rattle.ent_history.specs.Draft.{last_of}
use Rattle.ent_report_reader.proofs.Ends.{answer_takes_if}
use Rattle.ent_report_reader.proofs.told.answer_takes.Goals as goal

pub returns : goal.returns
returns c =
    answer_takes_if c.args.transactions.now c.args.row.now c.in-Some.told.now c.in-Some-last.answer.now
    c.rows_take.result c.in-Some.ensures (c.in-Some-last.ensures ∙ ap last_of c.as_slice.ensures) c.rows_take.ensures
