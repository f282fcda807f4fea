use Rattle.std.proofs.Common.{sym, arith}
use Rattle.ent_join.proofs.Between.{column_found, column_not_found}
use Rattle.ent_join.proofs.index.column_of.Goals as goal

pub returns-then-other-class-clause-column : goal.returns-then-other-class-clause-column
returns-then-other-class-clause-column c =
    sym (column_found c.args.class c.args.classes.now c.loop-column.column c.loop-column.invariant (omega arith)
    c.if-other-class.true)

pub returns-clause-column : goal.returns-clause-column
returns-clause-column c =
    sym (column_not_found c.args.class c.args.classes.now (λ k h. c.loop-column.invariant k (omega arith)))
