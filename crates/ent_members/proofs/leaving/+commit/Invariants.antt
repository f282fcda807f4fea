use Rattle.std.proofs.Common.{length}
use Rattle.ent_members.proofs.leaving.+commit.Given as goal

abbrev pub decreases-commit : goal.decreases-commit
decreases-commit l = length l.members.now
