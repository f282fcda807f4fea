use Rattle.std.proofs.Common.{◌∷◌, [], ◌++◌, ◌∙◌, ap}
use Rattle.ent_history.specs.Answers.{with_row}
use Rattle.ent_report_reader.proofs.Ends.{put_last, put_none}
use Rattle.ent_report_reader.proofs.told.put_last_row.Goals as goal

pub returns-in_ok-push : goal.returns-in_ok-push
returns-in_ok-push c =
    put_last (with_row c.args.row) c.args.answers.now c.push.new.self c.take_last.new.list c.in-Some.answer
    c.in-Some.ensures.list
    (c.in_ok-push.ensures.ok ∙ ap (λ answer. c.take_last.new.list ++ answer ∷ []) c.in_ok-put_row.ensures)

pub returns-in_default : goal.returns-in_default
returns-in_default c =
    put_none (with_row c.args.row) c.args.answers.now c.take_last.new.list c.in_default.ensures.list
    c.in_default.ensures.none
