use Rattle.ent_group.proofs.Walks.{with_bit}
use Rattle.ent_group.proofs.marks.with_mark.Goals as goal

pub returns : goal.returns
returns c = λ i. with_bit c.args.row c.args.at i c.requires
