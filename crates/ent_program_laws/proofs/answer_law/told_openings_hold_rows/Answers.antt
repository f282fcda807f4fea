use Rattle.ent_program_laws.proofs.Opened.{opening_holds_rows, tables_faultless}
use Rattle.ent_program_laws.proofs.answer_law.told_openings_hold_rows.Goals as goal

pub returns-clause-tables : goal.returns-clause-tables
returns-clause-tables c = tables_faultless

pub returns-clause-rows : goal.returns-clause-rows
returns-clause-rows c = opening_holds_rows
