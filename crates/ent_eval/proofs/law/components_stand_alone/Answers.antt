use Rattle.ent_eval.proofs.Alone.{safe_alone}
use Rattle.ent_eval.proofs.law.components_stand_alone.Goals as goal

pub returns-clause-safe : goal.returns-clause-safe
returns-clause-safe c = safe_alone
