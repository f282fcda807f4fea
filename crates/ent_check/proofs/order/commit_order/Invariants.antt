use Rattle.std.proofs.Common.{◌≡◌, ◌<◌, length, min}
use Rattle.std.specs.List.{AllByRecursion}
use Rattle.ent_history.specs.Account.{accounts_from, commit_count}
use Rattle.ent_check.specs.Order.{AreBelow, AreNumbered}
use Rattle.ent_check.proofs.Commits.{OrderedBefore}
use Rattle.ent_check.proofs.order.commit_order.Given as goal

-- the transactions of the numbers so far stand there
abbrev pub invariant-loop-before : goal.invariant-loop-before
invariant-loop-before l = record {
  counted : l.count ≡ commit_count (accounts_from 1 l.scripts l.transactions);
  numbered : AreNumbered (accounts_from 1 l.scripts l.transactions) l.indices;
  low : AreBelow (min (length l.scripts) (length l.transactions)) l.indices;
  ordered : OrderedBefore (accounts_from 1 l.scripts l.transactions) l.before l.order.items;
  below : AllByRecursion (λ index. index < min (length l.scripts) (length l.transactions)) l.order.items;
}
