use Rattle.std.proofs.Common.{length}
use Rattle.ent_run.proofs.locks.+least_in_conflict.Given as goal

abbrev pub decreases-least_in_conflict : goal.decreases-least_in_conflict
decreases-least_in_conflict l = length l.asked.now
