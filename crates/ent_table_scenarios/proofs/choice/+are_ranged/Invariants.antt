use Rattle.std.proofs.Common.{length}
use Rattle.ent_table_scenarios.proofs.choice.+are_ranged.Given as goal

abbrev pub decreases-are_ranged : goal.decreases-are_ranged
decreases-are_ranged l = length l.members.now
