use Rattle.std.specs.Vec.{vec_len}
use Rattle.ent_core.proofs.commit.+enter.Given as goal

abbrev pub decreases-enter : goal.decreases-enter
decreases-enter l = vec_len l.committed.now
