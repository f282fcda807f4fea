use Rattle.ent_sched.proofs.Adding.{joined, none_made, one_made, widened}
use Rattle.ent_sched.proofs.law.events_add_up.Goals as goal

pub returns-clause-none : goal.returns-clause-none
returns-clause-none g c forms tally bound = none_made forms tally bound

pub returns-clause-one : goal.returns-clause-one
returns-clause-one g c forms event reply old new made adds =
    one_made forms event reply old new made
    (c.events_keep_the_input.ensures.opening forms old.core event reply new.core made.step)
    (c.events_keep_the_input.ensures.submitted forms old.core event reply new.core made.step adds)

pub returns-clause-joined : goal.returns-clause-joined
returns-clause-joined g c forms n m first middle last one other =
    joined forms (c.events_lead_on.ensures.joined forms) n m first middle last one other

pub returns-clause-widened : goal.returns-clause-widened
returns-clause-widened g c forms n m first last more h = widened forms n m first last more h
