use Rattle.ent_report_reader.proofs.Taking.{free_first, free_last}
use Rattle.ent_report_reader.proofs.draft.Draft.free_line.Goals as goal

pub returns-then-above : goal.returns-then-above
returns-then-above c =
    free_first c.args.self.now c.line_above.new.self c.args.text.now c.in_ok-above.above c.if-above.true
    c.in_ok-above.ensures

pub returns : goal.returns
returns c =
    free_last c.args.self.now c.line_above.new.self c.line_below.new.self c.args.text.now c.in_ok-above.above
    c.line_below.result c.if-above.false c.in_ok-above.ensures c.line_below.ensures
