use Rattle.std.proofs.Common.{◌≡◌, ◌++◌, drop}
use Rattle.ent_driver.specs.Why.{more_txs_text}
use Rattle.ent_driver.proofs.piece.append_more_txs.Given as goal

-- what is out, and the text of what is left
abbrev pub invariant-loop-tx : goal.invariant-loop-tx
invariant-loop-tx l = l.out.items ++ more_txs_text (drop l.tx-index l.more) ≡ l.fn.out.items ++ more_txs_text l.more
