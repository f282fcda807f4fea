use Rattle.ent_excerpt.proofs.Parts.{take_is_beginning}
use Rattle.ent_excerpt.proofs.excerpt.beginning.Goals as goal

pub returns-in-Some : goal.returns-in-Some
returns-in-Some c = take_is_beginning c.args.text.now c.in-Some.front.now c.args.length c.in-Some.ensures.front
