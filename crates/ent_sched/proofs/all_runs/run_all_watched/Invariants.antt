use Rattle.std.proofs.Common.{◌≡◌, []}
use Rattle.ent_protocol_laws.specs.Tries.{tries_left}
use Rattle.ent_core.specs.Passed.{resolved_forms}
use Rattle.ent_sched.specs.Watching.{IsWatched}
use Rattle.ent_sched.proofs.Running.{HasRun}
use Rattle.ent_sched.proofs.all_runs.run_all_watched.Given as goal

-- a recall and runs led on from the core that was given
abbrev pub invariant-runs : goal.invariant-runs
invariant-runs g l = record {
  none_lent : l.counted.core.lent ≡ [];
  ran : HasRun resolved_forms l.fn.counted l.counted;
  watched : IsWatched resolved_forms g.W.Watcher.hears l.fn.counted l.counted l.fn.watcher l.watcher;
}

abbrev pub decreases-runs : goal.decreases-runs
decreases-runs g l = tries_left l.counted.core
