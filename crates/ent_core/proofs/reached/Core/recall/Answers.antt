use Rattle.std.proofs.Common.{refl}
use Rattle.ent_protocol.specs.Event.{Recall, Recalled}
use Rattle.ent_core.proofs.Keeping.{kept_next}
use Rattle.ent_core.proofs.reached.Core.recall.Goals as goal

pub invariant_of-self : goal.invariant_of-self
invariant_of-self c =
    kept_next c.steps_go_on.ensures c.self.inside.store c.recall.new.store Recall Recalled c.self.invariant (
      refl,
      c.recall.ensures,
    )

pub returns-clause-legal : goal.returns-clause-legal
returns-clause-legal c =
    let kept = kept_next c.steps_go_on.ensures c.self.inside.store c.recall.new.store Recall Recalled
    c.self.invariant (refl, c.recall.ensures) in
    c.resolved_runs_are_legal.ensures c.recall.new.store kept.formed kept.reached
