use Rattle.ent_check.proofs.Step.{statement_alike}
use Rattle.ent_check.proofs.replay_law.statements_are_found_as_their_forms.Goals as goal

pub returns : goal.returns
returns c = statement_alike c.forms_run_as_statements.ensures
