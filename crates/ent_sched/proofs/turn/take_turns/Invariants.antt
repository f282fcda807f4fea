use Rattle.std.proofs.Common.{◌≡◌, ◌*◌, [], false, true, take}
use Rattle.std.specs.List.{AllByRecursion}
use Rattle.ent_protocol_laws.specs.Idle.{IsHeldUp}
use Rattle.ent_core.specs.Passed.{resolved_forms}
use Rattle.ent_sched.specs.Onward.{TicksOn}
use Rattle.ent_sched.specs.Progress.{UsesUp}
use Rattle.ent_sched.specs.Watching.{IsWatchedInRun}
use Rattle.ent_sched.proofs.turn.take_turns.Given as goal

-- the members so far had their turns: one of them moved, or all of them are held up where the round began
abbrev pub invariant-loop-tx : goal.invariant-loop-tx
invariant-loop-tx g l = record {
  events : TicksOn resolved_forms (2 * l.tx-index) l.fn.counted l.counted;
  watched : IsWatchedInRun resolved_forms g.W.Watcher.hears l.fn.counted l.counted l.fn.watcher l.watcher;
  none_lent : l.counted.core.lent ≡ [];
  progress : l.moved ≡ true → UsesUp l.fn.counted.core l.counted.core;
  idle : l.moved ≡ false
      → (l.counted.core ≡ l.fn.counted.core)
      × AllByRecursion (IsHeldUp resolved_forms l.fn.counted.core) (take l.tx-index l.tx-items);
}
