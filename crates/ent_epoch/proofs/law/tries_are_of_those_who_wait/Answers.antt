use Rattle.ent_sched.specs.Passed.{resolved_forms}
use Rattle.ent_epoch.proofs.Tries.{tries_counted}
use Rattle.ent_epoch.proofs.law.tries_are_of_those_who_wait.Goals as goal

pub returns : goal.returns
returns c = λ s reached asks once.
    tries_counted s (c.attempts_stay_within.ensures.own resolved_forms s reached asks) once
