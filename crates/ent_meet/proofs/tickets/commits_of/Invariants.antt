use Rattle.std.proofs.Common.{◌≡◌, ◌++◌, drop}
use Rattle.ent_feed.specs.Telling.{all_commits}
use Rattle.ent_meet.specs.Tickets.{commits_seen}
use Rattle.ent_meet.proofs.tickets.commits_of.Given as goal

-- the commits so far, and those of what is left
abbrev pub invariant-loop-group : goal.invariant-loop-group
invariant-loop-group l =
    commits_seen l.commits.items ++ all_commits (drop l.group-index l.groups) ≡ all_commits l.groups
