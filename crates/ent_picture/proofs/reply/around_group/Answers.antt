use Rattle.std.specs.Prelude.{codes}
use Rattle.ent_picture.proofs.Parts.{parted_by_text}
use Rattle.ent_picture.proofs.reply.around_group.Goals as goal

pub returns : goal.returns
returns c = parted_by_text (codes " group ") c.args.about.now c.split_once.result c.split_once.ensures.cases
