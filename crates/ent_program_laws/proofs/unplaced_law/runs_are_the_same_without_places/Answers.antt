use Rattle.ent_program_laws.proofs.Books.{good_same}
use Rattle.ent_program_laws.proofs.UnplacedRuns.{operations_are, script_run_same, scripts_run_same}
use Rattle.ent_program_laws.proofs.UnplacedRuns.{scripts_read_views_are}
use Rattle.ent_program_laws.proofs.unplaced_law.runs_are_the_same_without_places.Goals as goal

pub returns-clause-operations : goal.returns-clause-operations
returns-clause-operations c = operations_are

pub returns-clause-script : goal.returns-clause-script
returns-clause-script c = script_run_same

pub returns-clause-run : goal.returns-clause-run
returns-clause-run c = scripts_run_same

pub returns-clause-read_views : goal.returns-clause-read_views
returns-clause-read_views c = scripts_read_views_are

pub returns-clause-good : goal.returns-clause-good
returns-clause-good c = good_same
