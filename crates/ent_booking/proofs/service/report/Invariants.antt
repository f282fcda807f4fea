use Rattle.ent_booking.proofs.service.report.Given as goal

abbrev pub ghosts-report_by-S-Ledger : goal.ghosts-report_by-S-Ledger
ghosts-report_by-S-Ledger g a = record { name = a.blank.scripts.name; parts = a.blank.scripts.parts }

abbrev pub ghosts-report_by-S-Seats : goal.ghosts-report_by-S-Seats
ghosts-report_by-S-Seats g a = record { seats = a.blank.scripts.parts; book = a.blank.jobs }

abbrev pub ghosts-report_by-E-Ledger : goal.ghosts-report_by-E-Ledger
ghosts-report_by-E-Ledger g a = record { name = a.blank.entries.name; parts = a.blank.entries.parts }

abbrev pub ghosts-report_by-E-Seats : goal.ghosts-report_by-E-Seats
ghosts-report_by-E-Seats g a = record { seats = a.blank.entries.parts; book = a.blank.jobs }
