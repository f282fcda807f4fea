use Rattle.std.proofs.Common.{◌∙◌, List, subst, sym}
use Rattle.std.specs.Prelude.{Contains}
use Rattle.ent_protocol.specs.Job.{Job}
use Rattle.ent_job.proofs.Taken.{taken_from}
use Rattle.ent_job.proofs.lent.LentJobs.find.Goals as goal

pub returns-clause-not_taken : goal.returns-clause-not_taken
returns-clause-not_taken c = λ none left taken.
    let there : Contains c.args.self.now c.args.job.now = taken_from c.args.job.now c.args.self.now left taken in
    c.place_of.ensures.none none
    (subst (λ (jobs : List Job). Contains jobs c.args.job.now) (sym (c.as_slice.ensures.value ∙ c.self.view_is)) there)
