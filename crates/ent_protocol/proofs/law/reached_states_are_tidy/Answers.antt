use Rattle.ent_protocol.proofs.TidySteps.{reached_tidy, reached_settled}
use Rattle.ent_protocol.proofs.law.reached_states_are_tidy.Goals as goal

pub returns-clause-tidy : goal.returns-clause-tidy
returns-clause-tidy c start forms s reached = reached_tidy forms s reached

pub returns-clause-settled : goal.returns-clause-settled
returns-clause-settled c start forms s reached off = reached_settled forms s reached off
