use Rattle.std.proofs.Common.{arith}
use Rattle.ent_value.specs.declared.value.Kind.TheVariants as kinds
use Rattle.ent_rel.proofs.Keyed.{kinds_more, stored_more}
use Rattle.ent_rel.proofs.kinds.have_kinds.Goals as goal

pub loop-number-preserved : goal.loop-number-preserved
loop-number-preserved c =
    let i = c.loop-number.number in
    let v = c.index-values-number.result in
    record {
      kinds = kinds_more c.args.values.now c.args.kinds.now i v kinds.Int (omega arith)
          (omega arith) c.index-values-number.is
          (c.has_kind.ensures.kind.0 c.if-not-has_kind.false) c.loop-number.invariant.kinds;
      stored = stored_more c.args.values.now i v
          (omega arith) c.index-values-number.is c.has_kind.ensures.stored c.loop-number.invariant.stored;
    }
