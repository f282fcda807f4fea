use Rattle.ent_sessions.proofs.ledgers.run.Given as goal

abbrev pub ghosts-run_by-S-Ledger : goal.ghosts-run_by-S-Ledger
ghosts-run_by-S-Ledger g a = record { name = a.blank.scripts.name; parts = a.blank.scripts.parts }

abbrev pub ghosts-run_by-S-Seats : goal.ghosts-run_by-S-Seats
ghosts-run_by-S-Seats g a = record { seats = a.blank.scripts.parts; book = a.blank.jobs }

abbrev pub ghosts-run_by-E-Ledger : goal.ghosts-run_by-E-Ledger
ghosts-run_by-E-Ledger g a = record { name = a.blank.entries.name; parts = a.blank.entries.parts }

abbrev pub ghosts-run_by-E-Seats : goal.ghosts-run_by-E-Seats
ghosts-run_by-E-Seats g a = record { seats = a.blank.entries.parts; book = a.blank.jobs }
