use Rattle.ent_sql_laws.proofs.Meant.{bound_scripts_run, grounding_over, posts_over}
use Rattle.ent_sql_laws.proofs.bound_law.bound_scripts_mean_the_same.Goals as goal

pub returns-clause-runs : goal.returns-clause-runs
returns-clause-runs c = bound_scripts_run

pub returns-clause-grounds : goal.returns-clause-grounds
returns-clause-grounds c = grounding_over

pub returns-clause-posts : goal.returns-clause-posts
returns-clause-posts c = posts_over
