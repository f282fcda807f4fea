use Rattle.std.proofs.Common.{◌∙◌, sym, ap, map, arith}
use Rattle.ent_rel.specs.Relation.{Relation}
use Rattle.ent_lists.specs.Sets as set
use Rattle.ent_value.specs.Value.{row_cmp}
use Rattle.ent_loading.proofs.Loading.{rows_of_table, rows_fit, fits_always, full_is, loaded_is}
use Rattle.ent_loading.proofs.load.load_table.Goals as goal

pub load-requires : goal.load-requires
load-requires c =
    rows_fit c.args.opening.now c.args.catalogue.now.tables c.args.number c.args.schema.now c.in_ok-kinds.kinds.items
    c.in_ok-rows.rows.items c.requires.tables c.requires.number
    (c.in_ok-kinds.ensures ∙ ap (λ columns. map (λ column. column.kind) columns) (c.as_slice.ensures ∙ c.deref.ensures))
    c.in_ok-rows.ensures
    (c.opening_tables_are_kinded.ensures.kinds c.args.opening.now c.requires.formed)

pub unreachable-requires : goal.unreachable-requires
unreachable-requires c =
    fits_always c.args.opening.now c.args.schema.now.name c.in_ok-rows.rows.items _ _
    (omega (arith, c.len-count.ensures.len, c.len-count.ensures.limit))
    (rows_of_table c.args.opening.now c.args.catalogue.now.tables c.args.number c.args.schema.now
    c.in_ok-rows.rows.items c.requires.number c.in_ok-rows.ensures)
    (full_is _ _ _ c.in-Fault.is c.in-Err.ensures.fault)

pub returns-in-Ok-clause-rows : goal.returns-in-Ok-clause-rows
returns-in-Ok-clause-rows c =
    sym (ap (λ (table : Relation). table.rows) (loaded_is _ _ _ c.in-Ok.ensures.table))
    ∙ ap (λ rows. set.from_list {R = row_cmp} rows)
    (rows_of_table c.args.opening.now c.args.catalogue.now.tables c.args.number c.args.schema.now
    c.in_ok-rows.rows.items c.requires.number c.in_ok-rows.ensures)
