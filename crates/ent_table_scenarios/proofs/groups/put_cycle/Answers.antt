use Rattle.std.proofs.Common.{arith}
use Rattle.ent_table_scenarios.proofs.groups.put_cycle.Goals as goal

-- thirty-two pairs name at most sixty-four transactions
pub cycle-requires : goal.cycle-requires
cycle-requires c = c.few_pairs_name_few.ensures c.args.pairs.now 64 (omega arith)
