use Rattle.ent_sched.specs.Passed.{resolved_forms}
use Rattle.ent_epoch.proofs.Owned.{entries_owned}
use Rattle.ent_epoch.proofs.notes_law.entries_have_tickets.Goals as goal

pub returns : goal.returns
returns c = λ s tickets reached many.
    entries_owned s tickets (c.commits_are_numbered.ensures resolved_forms s reached)
    (c.transactions_stand_once.ensures.once resolved_forms s reached) many
