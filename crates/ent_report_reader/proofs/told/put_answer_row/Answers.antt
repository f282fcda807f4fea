use Rattle.std.proofs.Common.{◌∷◌, [], ◌++◌, ◌∙◌, ap, List}
use Rattle.ent_semantics.specs.declared.answer.Answer.{Answer}
use Rattle.ent_history.specs.declared.history.Told.{Told}
use Rattle.ent_history.specs.Answers.{with_answer_row}
use Rattle.ent_report_reader.proofs.Ends.{put_last, put_none}
use Rattle.ent_report_reader.proofs.told.put_answer_row.Goals as goal

pub returns-in_ok-push : goal.returns-in_ok-push
returns-in_ok-push c =
    put_last (with_answer_row c.args.row) c.args.transactions.now c.push.new.self c.take_last.new.list c.in-Some.told
    c.in-Some.ensures.list
    (c.in_ok-push.ensures.ok
    ∙ ap (λ (answers : List Answer). let told : Told = record { fate = c.in-Some.told.fate; answers = answers } in
    c.take_last.new.list ++ told ∷ []) c.in_ok-put_last_row.ensures)

pub returns-in_default : goal.returns-in_default
returns-in_default c =
    put_none (with_answer_row c.args.row) c.args.transactions.now c.take_last.new.list c.in_default.ensures.list
    c.in_default.ensures.none
