use Rattle.ent_excerpt.proofs.Lines.{line_around}
use Rattle.ent_excerpt.proofs.line.Line.of.Goals as goal

pub returns : goal.returns
returns c boundary =
    line_around c.args.text.now c.args.offset c.last_line-before.result.now c.first_line-behind.result.now boundary
    (rw (c.text_before.ensures boundary) at c.last_line-before.ensures)
    (rw (c.text_behind.ensures boundary) at c.first_line-behind.ensures)
