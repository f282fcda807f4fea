use Rattle.std.proofs.Common.{List, ℕ, subst, ◌∙◌}
use Rattle.ent_waits.specs.Rows.{MarksOne}
use Rattle.ent_waits.specs.Waits.{nothing}
use Rattle.ent_waits.proofs.Holders.{ForEach, each_next, each_whole, group_marked}
use Rattle.ent_waits.proofs.rows.mark_group.Goals as goal

pub loop-tx-preserved : goal.loop-tx-preserved
loop-tx-preserved c =
    let kept = c.mark_one-marked.ensures.kept in
    let row = c.loop-tx.marked in
    record {
      kept = λ place own. kept place (c.loop-tx.invariant.kept place own);
      each = each_next (MarksOne c.args.run.now) c.as_slice-tx-items.result.now c.loop-tx.tx-index 0 row
          c.mark_one-marked.result c.loop-tx-test.true
          (λ tx marks place other stands is. kept place (marks place other stands is)) c.mark_one-marked.ensures.marked
          c.loop-tx.invariant.each;
    }

pub returns-clause-marked : goal.returns-clause-marked
returns-clause-marked c =
    let row = c.loop-tx.marked in
    let marks = MarksOne c.args.run.now in
    group_marked c.args.run.now c.args.group row
    (subst (λ (numbers : List ℕ). ForEach marks numbers row)
    (c.as_slice-tx-items.ensures.list ∙ c.group_numbers.ensures nothing)
    (each_whole marks c.as_slice-tx-items.result.now c.loop-tx.tx-index row c.loop-tx-test.false
    c.loop-tx.invariant.each))
