use Rattle.std.proofs.Common.{length}
use Rattle.ent_core.proofs.joining.+withdraw_answered.Given as goal

abbrev pub decreases-withdraw_answered : goal.decreases-withdraw_answered
decreases-withdraw_answered l = length l.asked.now
