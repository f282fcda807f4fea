use Rattle.std.proofs.Common.{length}
use Rattle.ent_core.proofs.joining.+push_answers.Given as goal

abbrev pub decreases-push_answers : goal.decreases-push_answers
decreases-push_answers l = length l.asked.now
