use Rattle.ent_serve.proofs.workers.serve_input.Given as goal

abbrev pub ghosts-serve_by-S-Ledger : goal.ghosts-serve_by-S-Ledger
ghosts-serve_by-S-Ledger g a = record { name = a.blank.scripts.name; parts = a.blank.scripts.parts }

abbrev pub ghosts-serve_by-S-Seats : goal.ghosts-serve_by-S-Seats
ghosts-serve_by-S-Seats g a = record { seats = a.blank.scripts.parts; book = a.blank.jobs }

abbrev pub ghosts-serve_by-E-Ledger : goal.ghosts-serve_by-E-Ledger
ghosts-serve_by-E-Ledger g a = record { name = a.blank.entries.name; parts = a.blank.entries.parts }

abbrev pub ghosts-serve_by-E-Seats : goal.ghosts-serve_by-E-Seats
ghosts-serve_by-E-Seats g a = record { seats = a.blank.entries.parts; book = a.blank.jobs }
