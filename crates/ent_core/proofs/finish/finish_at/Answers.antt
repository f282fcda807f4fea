use Rattle.std.proofs.Common.{◌≡◌, Some, IfSome, List, ap, subst, sym, slice_get}
use Rattle.ent_protocol.specs.Job.{Job, One, Single}
use Rattle.ent_protocol.specs.State.{State}
use Rattle.ent_core.proofs.Outstanding.{stands_at}
use Rattle.ent_core.proofs.finish.finish_at.Goals as goal

pub take-requires-clause-stands : goal.take-requires-clause-stands
take-requires-clause-stands c =
    let s : State = c.args.store.now in
    let place = c.outstanding_at-place.result in
    let found = c.outstanding_at-place.ensures in
    let lent = ap (λ (x : State). x.lent) c.store.view_is in
    let T : List Job → Job → Type 0 = λ jobs job. IfSome place (λ index. slice_get jobs index ≡ Some job) in
    let W : Job → Type 0 = λ job. IfSome place (λ index. (single : Single) × (job.work ≡ One single)) in
    stands_at s c.args.done place
    (subst (λ job. T s.lent job) c.job.ensures (subst (λ jobs. T jobs c.job.result.now) lent found.some))
    (subst W c.job.ensures found.single)
    (λ none. found.none none s c.args.done (sym lent) (sym c.job.ensures))
