use Rattle.std.proofs.Common.{◌≡◌, ◌+◌, drop}
use Rattle.ent_members.specs.RunAttempts.{number_of}
use Rattle.ent_members.specs.Order.{place_in}
use Rattle.ent_members.proofs.run_attempts.place_for.Given as goal

-- nothing so far is greater
abbrev pub invariant-loop-i : goal.invariant-loop-i
invariant-loop-i l = place_in number_of l.run_attempts l.tx ≡ l.i + place_in number_of (drop l.i l.run_attempts) l.tx
