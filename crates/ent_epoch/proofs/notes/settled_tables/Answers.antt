use Rattle.std.proofs.Common.{Some, ap, ◌∙◌}
use Rattle.ent_rel.specs.Relation.{Relation}
use Rattle.ent_protocol.specs.Reached.{settled}
use Rattle.ent_epoch.proofs.Shared.{one_shared}
use Rattle.ent_epoch.proofs.notes.settled_tables.Goals as goal

pub loop-number-preserved : goal.loop-number-preserved
loop-number-preserved c =
    one_shared (settled c.args.core.now) c.loop-number.number c.loop-number.tables.items c.push.new.self.items
    c.in_ok-clone.field-0 c.loop-number.invariant c.in_ok-push.ensures.items
    (ap (λ (r : Relation). Some r.rows) c.in_ok-clone.ensures.cases ∙ c.in-Some.ensures.rows)
