use Rattle.std.proofs.Common.{◌∙◌, Some, ap, sym, slice_get}
use Rattle.ent_protocol.specs.Job.{Job}
use Rattle.ent_protocol.specs.State.{State}
use Rattle.ent_core.proofs.join_answer.accept.Goals as goal

pub accept_at-requires : goal.accept_at-requires
accept_at-requires c =
    ap (λ (s : State). slice_get s.lent c.in-Some.index) (sym c.store.view_is) ∙ c.in-Some.ensures.some
    ∙ ap (λ (job : Job). Some job) c.job.ensures
