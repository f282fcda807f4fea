use Rattle.std.proofs.Common.{◌≡◌, ◌+◌, drop}
use Rattle.ent_meet.specs.Tickets.{commits_seen, told_from}
use Rattle.ent_meet.proofs.tickets.told_of.Given as goal

-- it is looked for among those that are left
abbrev pub invariant-loop-commit : goal.invariant-loop-commit
invariant-loop-commit l = record {
  number : l.number ≡ l.commit-index + 1;
  left :
      told_from l.number (commits_seen (drop l.commit-index l.commits)) l.ticket
      ≡ told_from 1 (commits_seen l.commits) l.ticket;
}
