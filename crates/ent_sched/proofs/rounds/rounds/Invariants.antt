use Rattle.ent_sched.proofs.rounds.rounds.Given as goal

abbrev pub ghosts-counted_rounds : goal.ghosts-counted_rounds
ghosts-counted_rounds g a = record { name = a.ledger.name; parts = a.ledger.parts }
