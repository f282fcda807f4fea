use Rattle.std.proofs.Common.{◌<◌, length}
use Rattle.ent_unify.specs.Unifier.{kinds_seen}
use Rattle.ent_unify.proofs.Pairs.{pairs_more, tuples_same}
use Rattle.ent_unify.proofs.unifier.equations_of.Goals as goal

pub loop-pair-preserved : goal.loop-pair-preserved
loop-pair-preserved c =
    let pairs = c.args.pairs.now in
    let i = c.loop-pair.pair-index in
    let p = c.pair-item.result in
    let below : i < length pairs = c.loop-pair-test.true in
    pairs_more (kinds_seen c.args.kinds.now) pairs i p _ _ _ below c.pair-item.is
    c.loop-pair.invariant (c.is_plain.ensures.0 c.if-not-is_plain.false) c.in_ok-push_equations.ensures.pushed
    (tuples_same (kinds_seen c.args.kinds.now) c.tuple-left.result c.tuple-right.result p c.tuple-left.ensures.member
    c.tuple-left.ensures.kinds c.tuple-left.ensures.terms c.tuple-right.ensures.member c.tuple-right.ensures.kinds
    c.tuple-right.ensures.terms) c.in_ok-push_equations.ensures.bound
