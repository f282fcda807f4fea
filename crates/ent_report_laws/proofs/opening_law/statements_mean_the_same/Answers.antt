use Rattle.ent_report_laws.proofs.Columns.{same_columns}
use Rattle.ent_report_laws.proofs.Meant.{same_grounding, same_meaning, same_runs, same_read_views}
use Rattle.ent_report_laws.proofs.opening_law.statements_mean_the_same.Goals as goal

pub returns-clause-columns : goal.returns-clause-columns
returns-clause-columns c = same_columns

pub returns-clause-meaning : goal.returns-clause-meaning
returns-clause-meaning c first second alike = same_meaning first second (same_columns first second alike)

pub returns-clause-groundings : goal.returns-clause-groundings
returns-clause-groundings c first second alike = same_grounding first second (same_columns first second alike)

pub returns-clause-runs : goal.returns-clause-runs
returns-clause-runs c first second alike = same_runs first second (same_columns first second alike)

pub returns-clause-read_views : goal.returns-clause-read_views
returns-clause-read_views c first second alike = same_read_views first second (same_columns first second alike)
