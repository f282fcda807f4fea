use Rattle.std.proofs.Common.{arith}
use Rattle.ent_picture.proofs.Parts.{parted}
use Rattle.ent_picture.proofs.words.divided.Goals as goal

pub returns : goal.returns
returns c = parted 32 c.args.text.now c.split_once.result c.split_once.ensures.cases (omega arith)
