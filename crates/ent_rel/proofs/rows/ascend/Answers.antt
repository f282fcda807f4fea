use Rattle.std.proofs.Common.{[], arith}
use Rattle.std.proofs.lemmas.Map.Keys.{sorted_from_all_adjacent}
use Rattle.ent_value.specs.Order.{rows_total}
use Rattle.ent_rel.proofs.rows.ascend.Goals as goal

pub returns : goal.returns
returns c =
    λ _. sorted_from_all_adjacent rows_total c.args.rows.now []
    (λ k next. c.loop-index.invariant k [] (omega (arith, next, c.loop-index-test.false)))
