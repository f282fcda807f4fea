use Rattle.std.proofs.Common.{List, sym, subst, ◌∙◌, true≢false}
use Rattle.ent_lock.specs.Use.{IsLeastIfAny}
use Rattle.ent_run.proofs.LeastOf.{least_same}
use Rattle.ent_job.specs.Work.{work_seen}
use Rattle.ent_job.specs.declared.work.Work.{Work}
use Rattle.ent_semantics.specs.Pool.{Posted}
use Rattle.ent_protocol.specs.PoolEvents.{IsPresentComponent}
use Rattle.ent_waits.specs.Jobs.{HasPostedQuery, IsWorkOf}
use Rattle.ent_waits.proofs.jobs.least_at.Goals as goal

pub returns-then-branch : goal.returns-then-branch
returns-then-branch c = λ s same.
    let asked = c.in-Joint.asked in
    let found = c.least_of.result in
    let present : IsPresentComponent s asked =
    subst (IsPresentComponent s) c.as_slice.ensures
    ((c.in_ok-is_present-in-Joint.ensures s same).0 c.if-branch.true) in
    subst (λ (work : Work). IsLeastIfAny (IsWorkOf s (work_seen work)) found) (sym c.in-Joint.is)
    (least_same (HasPostedQuery asked) (λ tx. IsPresentComponent s asked × HasPostedQuery asked tx) found
    (λ n h. (present, h)) (λ n h. h.1)
    (subst (λ (xs : List Posted). IsLeastIfAny (HasPostedQuery xs) found) c.as_slice-then-branch.ensures
    c.least_of.ensures))

pub returns-else-branch : goal.returns-else-branch
returns-else-branch c = λ s same tx h.
    let own = subst (λ (work : Work). IsWorkOf s (work_seen work) tx) c.in-Joint.is h in
    let is = (c.in_ok-is_present-in-Joint.ensures s same).1
    (subst (IsPresentComponent s) (sym c.as_slice.ensures) own.0) in
    true≢false (sym is ∙ c.if-branch.false)
