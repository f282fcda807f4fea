use Rattle.ent_group.proofs.CycleWalk.{few_pairs}
use Rattle.ent_group.proofs.waits.few_pairs_name_few.Goals as goal

pub returns : goal.returns
returns c = few_pairs
