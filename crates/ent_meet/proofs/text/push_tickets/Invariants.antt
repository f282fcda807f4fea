use Rattle.std.proofs.Common.{◌≡◌, ◌++◌, drop}
use Rattle.ent_meet.specs.Text.{tickets_of}
use Rattle.ent_meet.proofs.text.push_tickets.Given as goal

-- the tickets so far, and those that are left
abbrev pub invariant-loop-commit : goal.invariant-loop-commit
invariant-loop-commit l =
    l.tickets.items ++ tickets_of (drop l.commit-index l.commits) ≡ l.fn.tickets.items ++ tickets_of l.commits
