use Rattle.std.proofs.Common.{subst}
use Rattle.std.specs.Prelude.{IfOk}
use Rattle.ent_protocol.specs.Event.{Pick}
use Rattle.ent_protocol.specs.State.{State}
use Rattle.ent_protocol.specs.Step.{Step}
use Rattle.ent_headline.specs.Resolved.{resolved_forms}
use Rattle.ent_core.specs.Reply.{reply_seen}
use Rattle.ent_core.proofs.Keeping.{kept_after}
use Rattle.ent_core.proofs.reached.Core.pick.Goals as goal

pub invariant_of-self : goal.invariant_of-self
invariant_of-self c =
    kept_after c.steps_go_on.ensures reply_seen c.self.inside.store c.pick.new.store Pick c.pick.result c.self.invariant
    c.pick.ensures.ok c.pick.ensures.err

pub returns-clause-ok : goal.returns-clause-ok
returns-clause-ok c =
    let P : State → Type 0 =
    λ s. IfOk c.pick.result (λ reply. Step resolved_forms s Pick (reply_seen reply) c.pick.new.store) in
    subst P c.self.view_is c.pick.ensures.ok

pub returns-clause-legal : goal.returns-clause-legal
returns-clause-legal c =
    let kept = kept_after c.steps_go_on.ensures reply_seen c.self.inside.store c.pick.new.store Pick c.pick.result
    c.self.invariant c.pick.ensures.ok c.pick.ensures.err in
    c.resolved_runs_are_legal.ensures c.pick.new.store kept.formed kept.reached
