use Rattle.std.proofs.Common.{◌∙◌, ap, [], map}
use Rattle.ent_form.specs.OpeningFault.{repeated}
use Rattle.ent_form.proofs.Declared.{table_again, table_inside, table_new}
use Rattle.ent_form.proofs.declaration.declarations_fault.Goals as goal

pub returns-then-is_table_among : goal.returns-then-is_table_among
returns-then-is_table_among c = table_again c.args.tables.now c.loop-number.number c.index-tables-number.result
    c.is_table_among.result _ c.loop-number-test.true c.index-tables-number.is c.is_table_among.ensures
    c.if-is_table_among.true c.loop-number.invariant

pub returns-in-Some : goal.returns-in-Some
returns-in-Some c =
    let inside = c.in-Some.ensures ∙ ap (λ columns. repeated [] (map (λ column. column.name) columns))
    (c.as_slice.ensures ∙ c.deref.ensures) in
    table_inside c.args.tables.now c.loop-number.number c.index-tables-number.result c.is_table_among.result
    c.in-Some.fault _ c.loop-number-test.true c.index-tables-number.is c.is_table_among.ensures
    c.if-is_table_among.false inside c.loop-number.invariant

pub loop-number-preserved : goal.loop-number-preserved
loop-number-preserved c =
    let inside = c.in_default.ensures ∙ ap (λ columns. repeated [] (map (λ column. column.name) columns))
    (c.as_slice.ensures ∙ c.deref.ensures) in
    table_new c.args.tables.now c.loop-number.number c.index-tables-number.result c.is_table_among.result _
    c.loop-number-test.true c.index-tables-number.is c.is_table_among.ensures c.if-is_table_among.false inside
    c.loop-number.invariant
