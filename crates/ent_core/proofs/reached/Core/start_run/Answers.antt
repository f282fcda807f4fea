use Rattle.ent_protocol.specs.Event.{StartRun}
use Rattle.ent_core.specs.Reply.{reply_seen}
use Rattle.ent_core.proofs.Keeping.{kept_after}
use Rattle.ent_core.proofs.reached.Core.start_run.Goals as goal

pub invariant_of-self : goal.invariant_of-self
invariant_of-self c =
    kept_after c.steps_go_on.ensures reply_seen c.self.inside.store c.start_run.new.store StartRun c.start_run.result
    c.self.invariant
    c.start_run.ensures.ok c.start_run.ensures.err

pub returns-clause-legal : goal.returns-clause-legal
returns-clause-legal c =
    let kept = kept_after c.steps_go_on.ensures reply_seen c.self.inside.store c.start_run.new.store StartRun
    c.start_run.result c.self.invariant
    c.start_run.ensures.ok c.start_run.ensures.err in
    c.resolved_runs_are_legal.ensures c.start_run.new.store kept.formed kept.reached
