use Rattle.std.proofs.Common.{List, ap, ◌∙◌}
use Rattle.ent_protocol.specs.Begin.{with_uses}
use Rattle.ent_protocol.specs.State.{Use}
use Rattle.ent_protocol.specs.Uses.{entangled_uses}
use Rattle.ent_waits.proofs.Used.{uses_more}
use Rattle.ent_waits.proofs.uses.joint_uses.Goals as goal

pub loop-query-preserved : goal.loop-query-preserved
loop-query-preserved c =
    let query = c.query-item.result in
    let own =
    c.as_slice-in-loop-query.ensures.list
    ∙ (c.entangled_uses-own.ensures ∙ ap entangled_uses c.statement.ensures) in
    c.in_ok-uses.ensures
    ∙ (ap (λ (uses : List Use). with_uses uses c.as_slice.result.now) own
    ∙ (ap (with_uses (entangled_uses query.statement)) (c.as_slice.ensures.value ∙ c.loop-query.invariant)
    ∙ uses_more c.args.asked.now c.loop-query.query-index query c.loop-query-test.true c.query-item.is))
