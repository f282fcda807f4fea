use Rattle.ent_form.proofs.Declared.{column_again, column_new}
use Rattle.ent_form.proofs.declaration.repeated_column.Goals as goal

pub returns-then-is_column_among : goal.returns-then-is_column_among
returns-then-is_column_among c = column_again c.args.columns.now c.loop-number.number c.index-columns-number.result
    c.is_column_among.result _ c.loop-number-test.true c.index-columns-number.is c.is_column_among.ensures
    c.if-is_column_among.true c.loop-number.invariant

pub loop-number-preserved : goal.loop-number-preserved
loop-number-preserved c = column_new c.args.columns.now c.loop-number.number c.index-columns-number.result
    c.is_column_among.result _ c.loop-number-test.true c.index-columns-number.is c.is_column_among.ensures
    c.if-is_column_among.false c.loop-number.invariant
