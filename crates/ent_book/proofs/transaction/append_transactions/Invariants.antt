use Rattle.std.proofs.Common.{◌≡◌, ◌++◌, drop}
use Rattle.ent_book.specs.Report.{transactions_text}
use Rattle.ent_book.proofs.transaction.append_transactions.Given as goal

-- what is out, and the text of what is left
abbrev pub invariant-loop-fated : goal.invariant-loop-fated
invariant-loop-fated l =
    l.out.items ++ transactions_text l.journal (drop l.fated-index l.fates)
    ≡ l.fn.out.items ++ transactions_text l.journal l.fates
