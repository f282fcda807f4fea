use Rattle.std.proofs.Common.{◌∙◌, ap, not, List, ℕ}
use Rattle.std.specs.Prelude.{filter}
use Rattle.ent_protocol.specs.Job.{Job}
use Rattle.ent_job.specs.Lent.{goes_with_any}
use Rattle.ent_job.proofs.Leaving.{left_with}
use Rattle.ent_job.proofs.lent.LentJobs.remove_with.Goals as goal

pub returns-clause-list : goal.returns-clause-list
returns-clause-list c =
    c.remove_with.ensures
    ∙ ap (λ (jobs : List Job). filter (λ job. not (goes_with_any c.args.numbers.now job)) jobs) c.self.view_is

pub returns-clause-gone : goal.returns-clause-gone
returns-clause-gone c = λ gone is.
    returns-clause-list c
    ∙ ap (λ (numbers : List ℕ). filter (λ job. not (goes_with_any numbers job)) c.args.self.now) is
    ∙ left_with gone c.args.self.now
