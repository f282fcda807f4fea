use Rattle.ent_desk.proofs.account.have_receipt.Given as goal

abbrev pub invariant-loop-session : goal.invariant-loop-session
invariant-loop-session g l = Unit {0}
