use Rattle.std.proofs.Common.{◌≡◌, ◌≤◌, take, length}
use Rattle.ent_members.specs.RunAttempts.{numbers_in}
use Rattle.ent_members.proofs.run_attempts.numbers_of.Given as goal

abbrev pub invariant-loop-run_attempt : goal.invariant-loop-run_attempt
invariant-loop-run_attempt l = record {
  so_far : l.numbers ≡ numbers_in (take l.run_attempt-index l.run_attempts);
  room : length l.numbers ≤ l.run_attempt-index;
  bound : length l.run_attempts ≤ 64;
}
