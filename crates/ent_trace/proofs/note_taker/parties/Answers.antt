use Rattle.ent_protocol.specs.Event as events
use Rattle.ent_trace.proofs.Hearing.{held_on}
use Rattle.ent_trace.proofs.note_taker.parties.Goals as goal

pub returns-in-Finish : goal.returns-in-Finish
returns-in-Finish c = λ event told.
    let own = rw c.in-Finish.is at told in
    held_on c.in-Finish.own event (events.Finish own.0) own.1 own.2

pub returns-in-JoinAnswer : goal.returns-in-JoinAnswer
returns-in-JoinAnswer c = λ event told.
    let own = rw c.in-JoinAnswer.is at told in
    held_on c.in-JoinAnswer.own event (events.JoinAnswer own.0) own.1 own.2
