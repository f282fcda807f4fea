use Rattle.std.proofs.Common.{◌∙◌, ap}
use Rattle.ent_protocol.specs.Event.{Begin}
use Rattle.ent_protocol.specs.Member.{active_member, next_of}
use Rattle.ent_protocol.specs.State.{State}
use Rattle.ent_core.specs.Reply.{reply_seen}
use Rattle.ent_core.proofs.Keeping.{kept_after}
use Rattle.ent_core.proofs.reached.Core.begin_free.Goals as goal

pub invariant_of-self : goal.invariant_of-self
invariant_of-self c =
    kept_after c.steps_go_on.ensures reply_seen c.self.inside.store c.begin_free.new.store (Begin c.args.found.tx)
    c.begin_free.result
    c.self.invariant c.begin_free.ensures.ok c.begin_free.ensures.err

pub returns-clause-rolls_back : goal.returns-clause-rolls_back
returns-clause-rolls_back c = λ member there rolls.
    c.begin_free.ensures.rolls_back member (ap (λ (s : State). active_member s c.args.found.tx) c.self.view_is ∙ there)
    (ap (λ (s : State). next_of s member) c.self.view_is ∙ rolls)

pub returns-clause-legal : goal.returns-clause-legal
returns-clause-legal c =
    let kept = kept_after c.steps_go_on.ensures reply_seen c.self.inside.store c.begin_free.new.store
    (Begin c.args.found.tx)
    c.begin_free.result c.self.invariant c.begin_free.ensures.ok c.begin_free.ensures.err in
    c.resolved_runs_are_legal.ensures c.begin_free.new.store kept.formed kept.reached
