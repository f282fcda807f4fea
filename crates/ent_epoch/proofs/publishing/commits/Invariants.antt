use Rattle.std.proofs.Common.{◌≡◌, ◌+◌, ◌++◌, drop, map}
use Rattle.ent_sched.specs.Passed.{numbered_from}
use Rattle.ent_epoch.specs.Publishing.{commit_at}
use Rattle.ent_epoch.proofs.publishing.commits.Given as goal

-- the commits so far, and those of the members that are left
abbrev pub invariant-loop-tx : goal.invariant-loop-tx
invariant-loop-tx l = record {
  number : l.number ≡ l.first + l.tx-index;
  whole :
      l.commits ++ map (commit_at l.source.tickets.now l.source.journal.now)
      (numbered_from l.number (drop l.tx-index l.tx-items))
      ≡ map (commit_at l.source.tickets.now l.source.journal.now) (numbered_from l.first l.tx-items);
}
