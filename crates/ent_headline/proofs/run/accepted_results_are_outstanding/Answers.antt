use Rattle.ent_headline.specs.Resolved.{resolved_forms}
use Rattle.ent_headline.proofs.Outstanding.{accepted_one, accepted_together}
use Rattle.ent_headline.proofs.run.accepted_results_are_outstanding.Goals as goal

pub returns-clause-one : goal.returns-clause-one
returns-clause-one c s done reply new e reached step =
    accepted_one s (c.lent_jobs_stand_once.ensures resolved_forms s reached)
    (c.resolved_jobs_are_present.ensures.present s e reached) done reply new step

pub returns-clause-together : goal.returns-clause-together
returns-clause-together c s done reply new e reached step =
    accepted_together s (c.lent_jobs_stand_once.ensures resolved_forms s reached)
    (c.resolved_jobs_are_present.ensures.present s e reached) done reply new step
