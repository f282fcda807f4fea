use Rattle.ent_protocol_laws.proofs.SerialCounted.{commits_few, run_commits_few}
use Rattle.ent_protocol_laws.proofs.commit_law.commits_take_members.Goals as goal

pub returns-clause-within : goal.returns-clause-within
returns-clause-within g c forms s last told played none = commits_few forms s last told played none

pub returns-clause-of_run : goal.returns-clause-of_run
returns-clause-of_run g c forms s last told reached played none =
    run_commits_few forms (c.steps_go_on.ensures forms) (c.transactions_stand_once.ensures.bound forms) s last told
    reached played none
