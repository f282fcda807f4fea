use Rattle.ent_excerpt.proofs.Lines.{behind_last_break, all_is_last}
use Rattle.ent_excerpt.proofs.line.last_line.Goals as goal

pub returns-in-Some : goal.returns-in-Some
returns-in-Some c =
    let cases = c.in-Some.ensures.cases in
    behind_last_break c.args.text.now c.in-Some.line.now cases.0 cases.1 cases.2 cases.4

pub returns-in-None : goal.returns-in-None
returns-in-None c = all_is_last c.args.text.now c.in-None.ensures.cases
