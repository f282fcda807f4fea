use Rattle.std.proofs.Common.{length}
use Rattle.ent_run.proofs.start.+fresh_members.Given as goal

abbrev pub decreases-fresh_members : goal.decreases-fresh_members
decreases-fresh_members l = length l.entrants.now
