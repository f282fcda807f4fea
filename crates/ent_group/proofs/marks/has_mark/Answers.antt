use Rattle.std.proofs.Common.{◌==◌, ap}
use Rattle.ent_group.specs.Marks.{has_mark}
use Rattle.std.proofs.lemmas.Nat.Bits.{shr_and_one}
use Rattle.ent_group.proofs.marks.has_mark.Goals as goal

pub returns : goal.returns
unfolding has_mark
returns c = ap (λ n. n == 1) (shr_and_one c.args.row c.args.at)
