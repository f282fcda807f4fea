use Rattle.std.proofs.Common.{sym, ◌∙◌, arith}
use Rattle.std.specs.Arc.{arc_value}
use Rattle.ent_page.proofs.Paging.{same_step}
use Rattle.ent_page.proofs.pages.are_same_keys.Goals as goal

pub loop-same-preserved : goal.loop-same-preserved
loop-same-preserved c =
    let same = sym c.deref.ensures ∙ c.is_same.ensures.0 c.if-is_same.true ∙ c.deref-in-loop-same.ensures in
    record {
      range = omega arith;
      left = c.loop-same.invariant.left;
      right = c.loop-same.invariant.right;
      rest = same_step arc_value c.args.left.now c.args.right.now c.loop-same.same c.index-left-same.result
          c.index-right-same.result
          (omega (arith, c.loop-same.invariant.left)) (omega (arith, c.loop-same.invariant.right))
          c.index-left-same.is c.index-right-same.is same _ c.loop-same.invariant.rest;
    }
