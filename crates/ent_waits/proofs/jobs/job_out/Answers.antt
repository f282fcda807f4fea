use Rattle.std.proofs.Common.{◌+◌, ℕ, List, Option, take, sym, subst}
use Rattle.ent_lock.specs.Use.{IsLeastIfAny}
use Rattle.ent_run.proofs.LeastOf.{least_same}
use Rattle.ent_protocol.specs.Job.{Job, Work}
use Rattle.ent_protocol.specs.Quiet.{HasJobOut}
use Rattle.ent_waits.specs.Jobs.{IsWorkOf}
use Rattle.ent_waits.proofs.Outs.{HasJobIn, out_from_state, out_in_state}
use Rattle.ent_waits.proofs.Smallest.{least_more, least_nil, least_whole}
use Rattle.ent_waits.proofs.jobs.job_out.Goals as goal

pub loop-job-init : goal.loop-job-init
loop-job-init c = λ s same. least_nil (λ (job : Job) tx. IsWorkOf s job.work tx)

pub loop-job-preserved : goal.loop-job-preserved
loop-job-preserved c = λ s same.
    let lent = c.args.lent.now in
    let at = c.loop-job.job-index in
    let job = c.job-item.result in
    let own = c.in_ok-own.own in
    let of_job = subst (λ (work : Work). IsLeastIfAny (IsWorkOf s work) own) c.work.ensures.work
    (c.in_ok-own.ensures s same) in
    subst (λ (least : Option ℕ). IsLeastIfAny (HasJobIn s (take (at + 1) lent)) least) (sym c.lesser-least.ensures)
    (least_more (λ (one : Job) tx. IsWorkOf s one.work tx) lent at job c.loop-job.least own c.loop-job-test.true
    c.job-item.is (c.loop-job.invariant s same) of_job)

pub returns : goal.returns
returns c = λ s same lent.
    let least = c.loop-job.least in
    let all = least_whole (λ (one : Job) tx. IsWorkOf s one.work tx) c.args.lent.now c.loop-job.job-index least
    c.loop-job-test.false (c.loop-job.invariant s same) in
    least_same (HasJobIn s s.lent) (HasJobOut s) least (out_in_state s) (out_from_state s)
    (subst (λ (jobs : List Job). IsLeastIfAny (HasJobIn s jobs) least) (sym lent) all)
