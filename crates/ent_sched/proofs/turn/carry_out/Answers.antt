use Rattle.std.proofs.Common.{refl}
use Rattle.ent_core.specs.Passed.{resolved_forms}
use Rattle.ent_sched.proofs.Watched.{unwatched}
use Rattle.ent_sched.proofs.turn.carry_out.Goals as goal

pub returns-in-Err-clause-watched : goal.returns-in-Err-clause-watched
returns-in-Err-clause-watched g c =
    unwatched resolved_forms g.W.Watcher.hears c.args.counted.now c.args.counted.now c.args.watcher.now
    c.args.watcher.now c.is_reached.ensures.bound refl refl
