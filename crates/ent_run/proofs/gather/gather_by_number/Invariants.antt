use Rattle.std.proofs.Common.{◌≡◌, ◌≤◌, ◌++◌, drop, filter, length, map}
use Rattle.ent_lock.specs.Use.{Uses}
use Rattle.ent_members.specs.InRun.{in_run}
use Rattle.ent_members.specs.RunAttempts.{is_within, run_attempt_of}
use Rattle.ent_run.proofs.gather.gather_by_number.Given as goal

abbrev pub invariant-loop-place : goal.invariant-loop-place
invariant-loop-place l = record {
  list : (locks : Uses) → l.run_attempts
      ++ map run_attempt_of (filter (is_within l.group) (map (in_run locks l.groups) (drop l.place l.members)))
      ≡ map run_attempt_of (filter (is_within l.group) (map (in_run locks l.groups) l.members));
  room : length l.run_attempts ≤ l.place;
  bound : length l.members ≤ 64;
}
