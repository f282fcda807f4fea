use Rattle.ent_protocol.specs.Event.{JoinAnswer}
use Rattle.ent_core.specs.Reply.{reply_seen}
use Rattle.ent_core.proofs.Keeping.{kept_after}
use Rattle.ent_core.proofs.reached.Core.join_answer_at.Goals as goal

pub invariant_of-self : goal.invariant_of-self
invariant_of-self c =
    kept_after c.steps_go_on.ensures reply_seen c.self.inside.store c.join_answer_at.new.store
    (JoinAnswer c.args.done) c.join_answer_at.result c.self.invariant c.join_answer_at.ensures.ok
    c.join_answer_at.ensures.err

pub returns-clause-legal : goal.returns-clause-legal
returns-clause-legal c =
    let kept = kept_after c.steps_go_on.ensures reply_seen c.self.inside.store c.join_answer_at.new.store
    (JoinAnswer c.args.done) c.join_answer_at.result c.self.invariant c.join_answer_at.ensures.ok
    c.join_answer_at.ensures.err in
    c.resolved_runs_are_legal.ensures c.join_answer_at.new.store kept.formed kept.reached
