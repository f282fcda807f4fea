use Rattle.std.proofs.Common.{◌≡◌, ◌∙◌, ap, sym}
use Rattle.std.proofs.lemmas.Option.{slice_get_within}
use Rattle.ent_job.specs.Work.{work_seen}
use Rattle.ent_eval.specs.Result.{outcome_seen}
use Rattle.ent_eval.specs.declared.outcome.JobOutcome.{JobOutcome}
use Rattle.ent_job.specs.declared.work.Work.{Work}
use Rattle.ent_protocol.specs.Job.{Job, Joint}
use Rattle.ent_core.specs.Reply.{reply_seen}
use Rattle.ent_core.proofs.JointResults.{accepted, distinct_by_number, one_grounding_each}
use Rattle.ent_core.proofs.join_answer.settle.Goals as goal

pub carry_out-requires-clause-lent : goal.carry_out-requires-clause-lent
carry_out-requires-clause-lent c =
    slice_get_within c.args.store.now.lent c.args.index c.args.done.now.job c.requires.lent

pub carry_out-requires-clause-one_each : goal.carry_out-requires-clause-one_each
carry_out-requires-clause-one_each c =
    let asked = c.in-Joint.asked in
    let work : Joint asked ≡ c.args.done.now.job.work =
    sym (ap (λ (own : Work). work_seen own) c.in-Joint.is) ∙ c.work.ensures.work
    ∙ ap (λ (job : Job). job.work) c.job.ensures in
    one_grounding_each c.args.done.now asked c.in-Choice.choice work
    (sym (ap (λ (own : JobOutcome). outcome_seen own) c.in-Choice.is) ∙ c.outcome.ensures.outcome)
    c.outcome.ensures.meaning

pub carry_out-requires-clause-distinct : goal.carry_out-requires-clause-distinct
carry_out-requires-clause-distinct c =
    let asked = c.in-Joint.asked in
    let work : Joint asked ≡ c.args.done.now.job.work =
    sym (ap (λ (own : Work). work_seen own) c.in-Joint.is) ∙ c.work.ensures.work
    ∙ ap (λ (job : Job). job.work) c.job.ensures in
    distinct_by_number asked (c.requires.component asked (sym work)).ascending

pub returns-clause-ok : goal.returns-clause-ok
returns-clause-ok c =
    let asked = c.in-Joint.asked in
    let index = c.args.index in
    let work : Joint asked ≡ c.args.done.now.job.work =
    sym (ap (λ (own : Work). work_seen own) c.in-Joint.is) ∙ c.work.ensures.work
    ∙ ap (λ (job : Job). job.work) c.job.ensures in
    accepted c.args.store.now c.carry_out.new.store c.args.done.now index asked c.in-Choice.choice
    (reply_seen c.in_ok-reply.reply) work c.requires.lent (c.requires.component asked (sym work))
    c.outcome.ensures.meaning
    (sym (ap (λ (own : JobOutcome). outcome_seen own) c.in-Choice.is) ∙ c.outcome.ensures.outcome)
    c.in_ok-reply.ensures.ok
