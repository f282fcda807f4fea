use Rattle.ent_trace.proofs.both.parted.Goals as goal

pub returns-in-Finish : goal.returns-in-Finish
returns-in-Finish g c = λ event told.
    let own = rw c.in-Finish.is at told in
    ((own.0, own.1.0, own.2), (own.0, own.1.1, own.2))

pub returns-in-JoinAnswer : goal.returns-in-JoinAnswer
returns-in-JoinAnswer g c = λ event told.
    let own = rw c.in-JoinAnswer.is at told in
    ((own.0, own.1.0, own.2), (own.0, own.1.1, own.2))
