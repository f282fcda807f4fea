use Rattle.ent_history.specs.Account.{accounts_from, commit_count}
use Rattle.ent_check.proofs.Accounts.{accounts_behind}
use Rattle.ent_check.proofs.Numbers.{JournalBehind}
use Rattle.ent_check.proofs.journal.journal_finding.Given as goal
use Rattle.std.proofs.Common.{◌≡◌}

-- of those so far nothing is found
abbrev pub invariant-loop-index : goal.invariant-loop-index
invariant-loop-index l = record {
  counted : l.count ≡ commit_count (accounts_from 1 l.scripts l.transactions);
  behind : JournalBehind l.count (accounts_from 1 l.scripts l.transactions) l.above.items
      (accounts_behind l.scripts l.transactions l.index);
}
