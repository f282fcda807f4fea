use Rattle.ent_report_laws.proofs.Declared.{rows_declared, script_declared}
use Rattle.ent_report_laws.proofs.declared_tables.resolved_scripts_keep_to_declared_tables.Goals as goal

pub returns-clause-opens : goal.returns-clause-opens
returns-clause-opens c = rows_declared

pub returns-clause-within : goal.returns-clause-within
returns-clause-within c = script_declared
