use Rattle.std.proofs.Common.{◌≡◌, ◌+◌, ◌<◌, ◌^◌}
use Rattle.ent_join.proofs.choice.add_ticks.Given as goal

abbrev pub invariant-loop-step : goal.invariant-loop-step
invariant-loop-step l = record {
  sum : l.fn.ticks + l._step < 2 ^ 64 → l.ticks ≡ l.fn.ticks + l._step;
  none : l._step ≡ 0 → l.ticks ≡ l.fn.ticks;
}
