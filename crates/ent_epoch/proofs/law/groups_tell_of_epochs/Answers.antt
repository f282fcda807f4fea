use Rattle.std.proofs.Common.{refl}
use Rattle.ent_sched.specs.Passed.{resolved_forms}
use Rattle.ent_protocol.specs.Event.{Submit, Submitted}
use Rattle.ent_epoch.specs.Epoch.{begun, for_one_run}
use Rattle.ent_epoch.proofs.Told.{begun_told, published_told, still_told, taken_untold}
use Rattle.ent_epoch.proofs.law.groups_tell_of_epochs.Goals as goal

pub returns-clause-begun : goal.returns-clause-begun
returns-clause-begun c = λ number opening. begun_told opening (begun number opening) refl refl refl

pub returns-clause-submitted : goal.returns-clause-submitted
returns-clause-submitted c = λ old ticket script submission new takes.
    let event = Submit (for_one_run script) in
    let reply = Submitted submission.tx in
    taken_untold old ticket script submission new takes
    (c.steps_go_on.ensures resolved_forms old.core event reply new.core takes.step).opening
    (c.journals_go_on.ensures.one old.core event reply new.core takes.step)

pub returns-clause-goes_on : goal.returns-clause-goes_on
returns-clause-goes_on c = still_told

pub returns-clause-published : goal.returns-clause-published
returns-clause-published c = λ opening old new before after groups told publishes.
    published_told c.groups_give_the_settled_tables.ensures.all c.groups_give_the_journal.ensures.since opening old new
    before after groups told publishes
