use Rattle.ent_protocol.specs.Event.{BreakCycle}
use Rattle.ent_core.specs.Reply.{reply_seen}
use Rattle.ent_core.proofs.Keeping.{kept_next}
use Rattle.ent_core.proofs.reached.Core.break_cycle.Goals as goal

pub invariant_of-self : goal.invariant_of-self
invariant_of-self c =
    kept_next c.steps_go_on.ensures c.self.inside.store c.break_cycle.new.store BreakCycle (reply_seen
    c.break_cycle.result)
    c.self.invariant c.break_cycle.ensures

pub returns-clause-step : goal.returns-clause-step
returns-clause-step c = rw (← c.self.view_is) c.break_cycle.ensures

pub returns-clause-legal : goal.returns-clause-legal
returns-clause-legal c =
    let kept = kept_next c.steps_go_on.ensures c.self.inside.store c.break_cycle.new.store BreakCycle
    (reply_seen c.break_cycle.result) c.self.invariant c.break_cycle.ensures in
    c.resolved_runs_are_legal.ensures c.break_cycle.new.store kept.formed kept.reached
