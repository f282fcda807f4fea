use Rattle.std.proofs.Common.{◌+◌, drop}
use Rattle.ent_desk.specs.Accounted.{HaveReceipts}
use Rattle.ent_desk.specs.Closed.{all_receipts}
use Rattle.ent_desk.proofs.account.have_receipts.Given as goal

-- where the receipts of the entries that are left are there, so are all
abbrev pub invariant-loop-index : goal.invariant-loop-index
invariant-loop-index g l =
    HaveReceipts l.core (all_receipts l.sessions) (l.index + 1) (drop l.index l.journal)
    → HaveReceipts l.core (all_receipts l.sessions) 1 l.journal
