use Rattle.std.proofs.Common.{◌∙◌, List, ap, sym, subst, slice_get}
use Rattle.ent_protocol.specs.Job.{Job}
use Rattle.ent_protocol.specs.PoolEvents.{IsPresentComponent}
use Rattle.ent_protocol_laws.proofs.Determined.{same_asked}
use Rattle.ent_core.proofs.join_answer.join_answer_at_once.Goals as goal

pub settle-requires-clause-lent : goal.settle-requires-clause-lent
settle-requires-clause-lent c = ap (λ (jobs : List Job). slice_get jobs 0) c.requires.alone

pub settle-requires-clause-component : goal.settle-requires-clause-component
settle-requires-clause-component c = λ asked is.
    let out = c.requires.outstanding in
    subst (IsPresentComponent c.args.store.now) (same_asked out.asked asked (sym out.is_joint ∙ is)) out.component
