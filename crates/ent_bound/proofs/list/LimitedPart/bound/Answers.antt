use Rattle.std.proofs.Common.{arith}
use Rattle.ent_bound.specs.Bound.{bound_value}
use Rattle.ent_bound.proofs.Steps.{mapped_more}
use Rattle.ent_bound.proofs.list.LimitedPart.bound.Goals as goal

pub loop-part-preserved : goal.loop-part-preserved
loop-part-preserved g c =
    mapped_more (g.T.Part.over (bound_value c.args.variables.now)) c.as_slice-parts.result.now c.loop-part.part-index
    c.part-item.result c.in_ok-bound.field-0 c.loop-part.copies c.push.new.self (omega arith) c.part-item.is
    c.in_ok-bound.ensures c.loop-part.invariant c.in_ok-push.ensures.ok
