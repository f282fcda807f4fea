use Rattle.std.proofs.Common.{◌≡◌, ◌++◌, drop}
use Rattle.ent_meet.specs.Tickets.{commits_seen}
use Rattle.ent_meet.proofs.tickets.push_all.Given as goal

-- the commits so far, and those that are left
abbrev pub invariant-loop-commit : goal.invariant-loop-commit
invariant-loop-commit l =
    commits_seen l.commits.items ++ drop l.commit-index l.more ≡ commits_seen l.fn.commits.items ++ l.more
