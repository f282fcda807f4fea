use Rattle.std.proofs.Common.{arith, rules}
use Rattle.ent_report_reader.proofs.Fronts.{so_far_all, so_far_end, so_far_first, so_far_next}
use Rattle.ent_report_reader.proofs.lines.behind_lines.Goals as goal

pub loop-left-init : goal.loop-left-init
loop-left-init c = (search rules, so_far_first c.args.text.now c.args.most)

pub loop-left-preserved : goal.loop-left-preserved
loop-left-preserved c = (
  search rules,
  so_far_next c.args.text.now c.args.most c.loop-left.left _ c.loop-left.rest.now c.in-Some._line.now
      c.in-Some.behind.now (omega (arith, c.loop-left-test.true)) c.in-Some.ensures.some c.loop-left.invariant.1,
)

pub returns-in-None : goal.returns-in-None
returns-in-None c =
    so_far_end c.args.text.now c.args.most c.loop-left.left c.loop-left.rest.now c.in-None.ensures.none
    c.loop-left.invariant.1

pub returns : goal.returns
returns c =
    so_far_all c.args.text.now c.args.most c.loop-left.left c.loop-left.rest.now
    (omega (arith, c.loop-left-test.false)) c.loop-left.invariant.1
