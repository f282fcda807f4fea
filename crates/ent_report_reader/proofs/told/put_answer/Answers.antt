use Rattle.std.proofs.Common.{◌∷◌, [], ◌++◌, ◌∙◌, ap, List}
use Rattle.ent_semantics.specs.declared.answer.Answer.{Answer}
use Rattle.ent_history.specs.declared.history.Told.{Told}
use Rattle.ent_history.specs.Answers.{with_answer}
use Rattle.ent_report_reader.proofs.Ends.{put_last, put_none}
use Rattle.ent_report_reader.proofs.told.put_answer.Goals as goal

pub returns-in_ok-push-2 : goal.returns-in_ok-push-2
returns-in_ok-push-2 c =
    put_last (with_answer c.args.answer) c.args.transactions.now c.push-in-Some.new.self c.take_last.new.list
    c.in-Some.told c.in-Some.ensures.list
    (c.in_ok-push-2.ensures.ok
    ∙ ap (λ (answers : List Answer). let told : Told = record { fate = c.in-Some.told.fate; answers = answers } in
    c.take_last.new.list ++ told ∷ []) c.in_ok-push.ensures.ok)

pub returns-in_default : goal.returns-in_default
returns-in_default c =
    put_none (with_answer c.args.answer) c.args.transactions.now c.take_last.new.list c.in_default.ensures.list
    c.in_default.ensures.none
