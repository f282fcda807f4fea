use Rattle.std.proofs.Common.{◌∙◌, arith, rules}
use Rattle.std.proofs.Math.Bool.{or-false}
use Rattle.ent_print.proofs.Beginning.{wrote_more}
use Rattle.ent_print.proofs.write.write_whole.Goals as goal

pub loop-rest-preserved : goal.loop-rest-preserved
loop-rest-preserved g c = record {
  beginning =
      wrote_more _ _ _ c.args.text.now c.loop-rest.rest.now c.split_at.result.1.now c.in-Ok.count
      c.split_at.ensures.back
      c.loop-rest.invariant.beginning c.in-Ok.ensures.bytes;
  unmarked = (c.in-Ok.ensures.failed ∙ or-false _ ∙ c.loop-rest.invariant.unmarked.0, grind (arith, rules));
}
