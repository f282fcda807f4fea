use Rattle.std.proofs.Common.{length}
use Rattle.ent_lock.proofs.table_uses.+add_all.Given as goal

abbrev pub decreases-add_all : goal.decreases-add_all
decreases-add_all g l = length l.asked.now
