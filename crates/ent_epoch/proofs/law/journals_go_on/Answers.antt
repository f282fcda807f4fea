use Rattle.ent_sched.specs.Passed.{resolved_forms}
use Rattle.ent_epoch.proofs.Told.{led_behind, made_behind, one_behind}
use Rattle.ent_epoch.proofs.law.journals_go_on.Goals as goal

pub returns-clause-led : goal.returns-clause-led
returns-clause-led c = λ s count new leads.
    led_behind (c.journals_grow_by_commits.ensures.one resolved_forms) count s new leads.leads

pub returns-clause-made : goal.returns-clause-made
returns-clause-made c = λ s new makes. made_behind (c.journals_grow_by_commits.ensures.one resolved_forms) s new makes

pub returns-clause-one : goal.returns-clause-one
returns-clause-one c = λ s event reply new step.
    one_behind (c.journals_grow_by_commits.ensures.one resolved_forms) s event reply new step
