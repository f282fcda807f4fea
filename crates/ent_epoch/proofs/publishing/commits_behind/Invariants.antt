use Rattle.std.proofs.Common.{◌≡◌, ◌++◌, drop, suc}
use Rattle.ent_feed.specs.Telling.{commits_of}
use Rattle.ent_epoch.proofs.publishing.commits_behind.Given as goal

-- the commits so far, and those of the entries that are left
abbrev pub invariant-loop-index : goal.invariant-loop-index
invariant-loop-index l =
    l.commits ++ commits_of l.source.tickets.now (suc l.index) (drop l.index l.source.journal.now)
    ≡ commits_of l.source.tickets.now (suc l.told) (drop l.told l.source.journal.now)
