use Rattle.std.proofs.Common.{length}
use Rattle.ent_join.proofs.made.+table_at.Given as goal

abbrev pub decreases-table_at : goal.decreases-table_at
decreases-table_at l = length l.tables.now
