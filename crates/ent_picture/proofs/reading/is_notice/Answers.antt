use Rattle.std.specs.Prelude.{codes}
use Rattle.std.proofs.lemmas.Str.Pattern.{starts_text}
use Rattle.ent_picture.proofs.reading.is_notice.Goals as goal

pub returns : goal.returns
returns c = starts_text c.starts_with.result (codes "entangle: ") c.args.line.now c.starts_with.ensures.cases
