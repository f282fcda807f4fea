use Rattle.ent_book.specs.Report.{line}
use Rattle.ent_history.specs.Opening.{OpeningStands}
use Rattle.ent_history.specs.Answers.{AnswerStands, TxStands}
use Rattle.ent_history.specs.Stands as stands
use Rattle.ent_report_reader.proofs.Taking.{above_last, above_second, judged_false, judged_so, judged_true}
use Rattle.ent_report_reader.proofs.draft.Draft.line_above.Goals as goal

pub returns-then-opens : goal.returns-then-opens
returns-then-opens c =
    stands.Opening
    (judged_true (OpeningStands c.args.self.now (line c.args.text.now)) c.args.self.now c.opening.new.self
    c.opening.result c.in_ok-opens.opens c.if-opens.true c.in_ok-opens.ensures c.opening.ensures)

pub returns-then-tells : goal.returns-then-tells
returns-then-tells c =
    above_second c.args.self.now c.opening.new.self c.tx.new.self c.args.text.now
    (judged_false (OpeningStands c.args.self.now (line c.args.text.now)) c.args.self.now c.opening.new.self
    c.opening.result c.in_ok-opens.opens c.if-opens.false c.in_ok-opens.ensures c.opening.ensures)
    (judged_true (TxStands c.opening.new.self (line c.args.text.now)) c.opening.new.self c.tx.new.self c.tx.result
    c.in_ok-tells.tells c.if-tells.true c.in_ok-tells.ensures c.tx.ensures)

pub returns : goal.returns
returns c =
    above_last c.args.self.now c.opening.new.self c.tx.new.self c.answer.new.self c.args.text.now c.stands-3.result
    (judged_false (OpeningStands c.args.self.now (line c.args.text.now)) c.args.self.now c.opening.new.self
    c.opening.result c.in_ok-opens.opens c.if-opens.false c.in_ok-opens.ensures c.opening.ensures)
    (judged_false (TxStands c.opening.new.self (line c.args.text.now)) c.opening.new.self c.tx.new.self c.tx.result
    c.in_ok-tells.tells c.if-tells.false c.in_ok-tells.ensures c.tx.ensures)
    (judged_so (AnswerStands c.tx.new.self (line c.args.text.now)) c.tx.new.self c.answer.new.self c.answer.result
    c.stands-3.result c.stands-3.ensures c.answer.ensures)
