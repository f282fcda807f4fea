use Rattle.ent_protocol.specs.Event.{Submit}
use Rattle.ent_core.specs.Reply.{reply_seen}
use Rattle.ent_core.proofs.Keeping.{kept_after}
use Rattle.ent_core.proofs.reached.Core.submit.Goals as goal

pub invariant_of-self : goal.invariant_of-self
invariant_of-self c =
    kept_after c.steps_go_on.ensures reply_seen c.self.inside.store c.submit.new.store (Submit c.args.script)
    c.submit.result c.self.invariant
    c.submit.ensures.ok c.submit.ensures.err

pub returns-clause-legal : goal.returns-clause-legal
returns-clause-legal c =
    let kept = kept_after c.steps_go_on.ensures reply_seen c.self.inside.store c.submit.new.store (Submit
    c.args.script) c.submit.result c.self.invariant
    c.submit.ensures.ok c.submit.ensures.err in
    c.resolved_runs_are_legal.ensures c.submit.new.store kept.formed kept.reached
