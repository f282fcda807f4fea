use Rattle.ent_protocol.specs.Event.{Finish}
use Rattle.ent_core.specs.Reply.{reply_seen}
use Rattle.ent_core.proofs.Keeping.{kept_after}
use Rattle.ent_core.proofs.reached.Core.finish_at.Goals as goal

pub invariant_of-self : goal.invariant_of-self
invariant_of-self c =
    kept_after c.steps_go_on.ensures reply_seen c.self.inside.store c.finish_at.new.store (Finish c.args.done)
    c.finish_at.result c.self.invariant c.finish_at.ensures.ok c.finish_at.ensures.err

pub returns-clause-legal : goal.returns-clause-legal
returns-clause-legal c =
    let kept = kept_after c.steps_go_on.ensures reply_seen c.self.inside.store c.finish_at.new.store
    (Finish c.args.done) c.finish_at.result c.self.invariant c.finish_at.ensures.ok
    c.finish_at.ensures.err in
    c.resolved_runs_are_legal.ensures c.finish_at.new.store kept.formed kept.reached
