use Rattle.std.proofs.Common.{sym}
use Rattle.ent_waits.specs.Rows.{MarksInConflict}
use Rattle.ent_waits.proofs.Holders.{each_more, each_none, each_whole, row_marks}
use Rattle.ent_waits.proofs.rows.row_of_askers.Goals as goal

pub loop-own-init : goal.loop-own-init
loop-own-init c = each_none (MarksInConflict c.args.run.now c.args.askers) 0

pub loop-own-preserved : goal.loop-own-preserved
loop-own-preserved c =
    each_more (MarksInConflict c.args.run.now c.args.askers) c.args.asked.now c.loop-own.own-index c.own-item.result
    c.loop-own.row c.mark_holders-row.result c.loop-own-test.true (sym c.own-item.is)
    (λ own marks holder way unpassed place other stands waits.
    c.mark_holders-row.ensures.kept place (marks holder way unpassed place other stands waits))
    c.mark_holders-row.ensures.marked c.loop-own.invariant

pub returns : goal.returns
returns c =
    let P = MarksInConflict c.args.run.now c.args.askers in
    row_marks c.args.run.now c.args.askers c.args.asked.now c.loop-own.row
    (each_whole P c.args.asked.now c.loop-own.own-index c.loop-own.row c.loop-own-test.false c.loop-own.invariant)
