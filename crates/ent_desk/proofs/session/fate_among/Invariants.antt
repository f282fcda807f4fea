use Rattle.std.proofs.Common.{◌≡◌, ◌==◌, drop}
use Rattle.std.specs.Prelude.{find}
use Rattle.ent_desk.proofs.session.fate_among.Given as goal

-- nothing that was passed is of the transaction
abbrev pub invariant-loop-receipt : goal.invariant-loop-receipt
invariant-loop-receipt l =
    find (λ receipt. receipt.tx == l.tx) (drop l.receipt-index l.receipts) ≡ find (λ receipt. receipt.tx == l.tx)
    l.receipts
