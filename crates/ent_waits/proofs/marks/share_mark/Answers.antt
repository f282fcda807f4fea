use Rattle.ent_waits.proofs.Stuck.{share_bit}
use Rattle.ent_waits.proofs.marks.share_mark.Goals as goal

pub returns : goal.returns
returns c = λ i own other. share_bit c.args.left c.args.right i own other
