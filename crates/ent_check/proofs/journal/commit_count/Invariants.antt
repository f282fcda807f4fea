use Rattle.std.proofs.Common.{◌≡◌, ◌+◌, ◌≤◌}
use Rattle.ent_history.specs.Account.{accounts_from, commit_count}
use Rattle.ent_check.proofs.Accounts.{accounts_behind}
use Rattle.ent_check.proofs.journal.commit_count.Given as goal

-- those so far, and those behind them, are all that have committed
abbrev pub invariant-loop-index : goal.invariant-loop-index
invariant-loop-index l = record {
  within : l.count ≤ l.index;
  so_far : commit_count (accounts_from 1 l.scripts l.transactions)
      ≡ l.count + commit_count (accounts_behind l.scripts l.transactions l.index);
}
