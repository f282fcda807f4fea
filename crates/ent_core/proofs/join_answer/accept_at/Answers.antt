use Rattle.std.proofs.Common.{◌≡◌, ◌∙◌, List, ap, sym, subst}
use Rattle.ent_job.specs.Work.{work_seen}
use Rattle.ent_job.specs.declared.work.Work.{Work}
use Rattle.ent_semantics.specs.Pool.{Posted}
use Rattle.ent_protocol.specs.Job.{Job, Joint}
use Rattle.ent_protocol.specs.PoolEvents.{IsPresentComponent}
use Rattle.ent_protocol_laws.proofs.Determined.{same_asked}
use Rattle.ent_core.proofs.join_answer.accept_at.Goals as goal

pub settle-requires-clause-component : goal.settle-requires-clause-component
settle-requires-clause-component c = λ asked is.
    let own = c.in-Joint.asked in
    let work : Joint own ≡ Joint asked =
    sym (ap (λ (work : Work). work_seen work) c.in-Joint.is) ∙ c.work.ensures.work
    ∙ ap (λ (job : Job). job.work) c.job.ensures ∙ is in
    let component : IsPresentComponent c.args.store.now own =
    subst (λ (all : List Posted). IsPresentComponent c.args.store.now all) c.as_slice.ensures
    (c.in_ok-is_component.ensures.0 c.if-branch.true) in
    subst (IsPresentComponent c.args.store.now) (same_asked own asked work) component
