use Rattle.std.proofs.Common.{length}
use Rattle.ent_run.proofs.gather.+gather.Given as goal

abbrev pub decreases-gather : goal.decreases-gather
decreases-gather l = length l.members.now
