use Rattle.ent_examples.proofs.Traced.{run_is, script_is, script_read_views_are, scripts_are, scripts_read_views_are}
use Rattle.ent_examples.proofs.Traced.{read_views_are}
use Rattle.ent_examples.proofs.event_law.serial_runs_are_read_off_traces.Goals as goal

pub returns-clause-statements : goal.returns-clause-statements
returns-clause-statements c = run_is

pub returns-clause-statements_see : goal.returns-clause-statements_see
returns-clause-statements_see c = read_views_are

pub returns-clause-script : goal.returns-clause-script
returns-clause-script c = script_is

pub returns-clause-script_sees : goal.returns-clause-script_sees
returns-clause-script_sees c = script_read_views_are

pub returns-clause-scripts : goal.returns-clause-scripts
returns-clause-scripts c = scripts_are

pub returns-clause-scripts_see : goal.returns-clause-scripts_see
returns-clause-scripts_see c = scripts_read_views_are
