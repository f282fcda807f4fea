use Rattle.std.proofs.Common.{◌≡◌, ◌+◌, ◌-◌, ◌∷◌, ◌≤◌, replicate}
use Rattle.ent_desk.specs.Opened.{other_session}
use Rattle.ent_desk.proofs.opening.seat_all.Given as goal

abbrev pub invariant-loop-i : goal.invariant-loop-i
invariant-loop-i g l =
    record {
      some : 1 ≤ l._i;
      submitted : l.submitted.parts + l._i ≡ l.count;
      committed : l.committed.parts + l._i ≡ l.count;
      none_submitted : l.submitted.amount ≡ 0;
      none_committed : l.committed.amount ≡ 0;
      sessions : l.sessions.items ≡ l.fn.first ∷ replicate (l._i - 1) other_session;
    }
