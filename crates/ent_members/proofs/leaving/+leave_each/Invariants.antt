use Rattle.std.proofs.Common.{length}
use Rattle.ent_members.proofs.leaving.+leave_each.Given as goal

abbrev pub decreases-leave_each : goal.decreases-leave_each
decreases-leave_each l = length l.run_attempts.now
