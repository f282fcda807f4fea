use Rattle.std.specs.Vec.{vec_len}
use Rattle.ent_run.proofs.answer.+answer_each.Given as goal

abbrev pub decreases-answer_each : goal.decreases-answer_each
decreases-answer_each l = vec_len l.given.now
