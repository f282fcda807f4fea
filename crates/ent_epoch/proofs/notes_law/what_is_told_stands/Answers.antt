use Rattle.ent_sched.specs.Passed.{resolved_forms}
use Rattle.ent_epoch.proofs.Standing.{can_tell}
use Rattle.ent_epoch.proofs.notes_law.what_is_told_stands.Goals as goal

pub returns : goal.returns
returns c = λ telling core formed keeps.
    can_tell (λ s event reply new step. (c.steps_go_on.ensures resolved_forms s event reply new step).opening)
    (c.journals_grow_by_commits.ensures.one resolved_forms) telling core keeps formed
    c.settled_tables_are_declared.ensures
