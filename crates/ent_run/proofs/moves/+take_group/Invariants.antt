use Rattle.std.proofs.Common.{length}
use Rattle.ent_run.proofs.moves.+take_group.Given as goal

abbrev pub decreases-take_group : goal.decreases-take_group
decreases-take_group l = length l.keys.now
