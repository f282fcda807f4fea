use Rattle.ent_excerpt.proofs.Parts.{drop_is_end}
use Rattle.ent_excerpt.proofs.excerpt.end.Goals as goal

pub returns-in-Some : goal.returns-in-Some
returns-in-Some c = drop_is_end c.args.text.now c.in-Some.back.now c.args.length c.in-Some.ensures.back
