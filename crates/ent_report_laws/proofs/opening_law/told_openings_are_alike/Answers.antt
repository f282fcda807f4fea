use Rattle.ent_report_laws.proofs.OpeningDeclared.{tables_told}
use Rattle.ent_report_laws.proofs.Rows.{rows_told, told_alike}
use Rattle.ent_report_laws.proofs.opening_law.told_openings_are_alike.Goals as goal

pub returns-clause-tables : goal.returns-clause-tables
returns-clause-tables c = tables_told

pub returns-clause-rows : goal.returns-clause-rows
returns-clause-rows c opening faultless name =
    rows_told opening name (c.resolved_scripts_keep_to_declared_tables.ensures.opens opening faultless name)

pub returns-clause-alike : goal.returns-clause-alike
returns-clause-alike c = told_alike c.resolved_scripts_keep_to_declared_tables.ensures.opens
