use Rattle.std.proofs.Common.{length}
use Rattle.ent_core.proofs.take_out.+withdraw_each.Given as goal

abbrev pub decreases-withdraw_each : goal.decreases-withdraw_each
decreases-withdraw_each l = length l.numbers.now
