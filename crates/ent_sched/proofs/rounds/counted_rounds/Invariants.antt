use Rattle.std.proofs.Common.{◌≡◌, ◌≤◌, ◌-◌, ◌*◌, [], length}
use Rattle.ent_protocol_laws.specs.Within.{IsWithin}
use Rattle.ent_protocol.specs.State.{members}
use Rattle.ent_core.specs.Passed.{resolved_forms}
use Rattle.ent_sched.specs.Onward.{TicksOn, events_of_round}
use Rattle.ent_sched.specs.Bounds.{most_progress}
use Rattle.ent_sched.specs.Watching.{IsWatchedInRun}
use Rattle.ent_sched.proofs.rounds.counted_rounds.Given as goal

-- so many rounds made progress, and as many steps of it are gone
abbrev pub invariant-rounds : goal.invariant-rounds
invariant-rounds g l =
    let first = l.fn.counted.core in record {
      whole : l.share.parts ≡ 1;
      none_lent : l.counted.core.lent ≡ [];
      few : l.progress.total ≤ most_progress first;
      within : IsWithin (length (members first)) (most_progress first - l.progress.total) l.counted.core;
      events : TicksOn resolved_forms (l.progress.total * events_of_round first) l.fn.counted l.counted;
      watched : IsWatchedInRun resolved_forms g.W.Watcher.hears l.fn.counted l.counted l.fn.watcher l.watcher;
    }

abbrev pub decreases-rounds : goal.decreases-rounds
decreases-rounds g l = most_progress l.fn.counted.core - l.progress.total
