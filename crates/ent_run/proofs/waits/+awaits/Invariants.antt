use Rattle.std.proofs.Common.{length}
use Rattle.ent_run.proofs.waits.+awaits.Given as goal

abbrev pub decreases-awaits : goal.decreases-awaits
decreases-awaits l = length l.asked.now
