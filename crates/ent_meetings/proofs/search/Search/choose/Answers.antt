use Rattle.ent_meetings.proofs.Moving.{comes, looks_on, past_all}
use Rattle.ent_meetings.proofs.search.Search.choose.Goals as goal

pub returns-in-Nobody-clause-ok : goal.returns-in-Nobody-clause-ok
returns-in-Nobody-clause-ok c =
    c.back.ensures c.args.index.now c.requires.stand
    (past_all c.args.index.now c.args.self.now c.requires.stand c.args.demand.now c.requires.unmet
    c.in-Nobody.ensures.next)

pub returns-in-Stopped-clause-ok : goal.returns-in-Stopped-clause-ok
returns-in-Stopped-clause-ok c =
    looks_on c.args.index.now c.args.self.now c.requires.stand c.in-Stopped.last c.args.demand.now c.requires.unmet
    (c.in-Stopped.ensures.next.2 c.requires.looks) c.in-Stopped.ensures.next.1

pub returns-in_ok-push-in-Found-clause-ok : goal.returns-in_ok-push-in-Found-clause-ok
returns-in_ok-push-in-Found-clause-ok c =
    let next = c.in-Found.ensures.next in
    comes c.args.index.now c.args.self.now c.requires.stand c.push.new.self c.args.demand.now c.in-Found.ticket
    c.in_ok-push-in-Found.ensures.items c.requires.unmet c.requires.room c.requires.some next.0 next.1 next.2
