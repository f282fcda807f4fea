use Rattle.std.proofs.Common.{length, min}
use Rattle.ent_history.specs.Account.{accounts_from}
use Rattle.ent_check.specs.Order.{AreBelow}
use Rattle.ent_check.proofs.Commits.{EnteredBefore}
use Rattle.ent_check.proofs.order.by_number.Given as goal

-- the transactions so far are entered
abbrev pub invariant-loop-index : goal.invariant-loop-index
invariant-loop-index l = record {
  entered : EnteredBefore (accounts_from 1 l.scripts l.transactions) l.index l.indices;
  below : AreBelow (min (length l.scripts) (length l.transactions)) l.indices;
}
