use Rattle.std.proofs.Common.{◌≡◌, ◌++◌}
use Rattle.ent_meet.specs.Tickets.{commits_seen, tickets_text}
use Rattle.ent_meet.proofs.tickets.append_tickets.Given as goal

-- the tickets so far are out
abbrev pub invariant-loop-passed : goal.invariant-loop-passed
invariant-loop-passed l =
    l.out.items ≡ l.fn.out.items ++ tickets_text l.room.admission.list (commits_seen l.commits.items) l.passed
