use Rattle.ent_protocol.specs.Event.{EndRun, Ended}
use Rattle.ent_protocol_laws.proofs.Ended.{again_exactly, reached_on, up_exactly}
use Rattle.ent_protocol_laws.proofs.steps_law.ended_members_give_up_at_last.Goals as goal

pub returns-clause-gives_up : goal.returns-clause-gives_up
returns-clause-gives_up g c forms s run new member own reached step there is_own =
    let on = c.steps_go_on.ensures forms s EndRun (Ended run) new step in
    let once = c.transactions_stand_once.ensures.once forms new
    (reached_on forms s EndRun (Ended run) new on reached step) in
    up_exactly forms s run new member own once step there is_own

pub returns-clause-waits : goal.returns-clause-waits
returns-clause-waits g c forms s run new member own reached step there is_own =
    let on = c.steps_go_on.ensures forms s EndRun (Ended run) new step in
    let once = c.transactions_stand_once.ensures.once forms new
    (reached_on forms s EndRun (Ended run) new on reached step) in
    again_exactly forms s run new member own once step there is_own
