use Rattle.std.proofs.Common.{◌∙◌, ap, map, arith, length}
use Rattle.std.proofs.lemmas.List.{take_all}
use Rattle.ent_lists.specs.Sets as set
use Rattle.ent_value.specs.Value.{row_cmp}
use Rattle.ent_semantics.specs.Database.{rows_named}
use Rattle.ent_loading.proofs.Loading.{opened}
use Rattle.ent_loading.proofs.load.load_tables.Goals as goal

pub returns-clause-rows : goal.returns-clause-rows
returns-clause-rows c =
    c.loop-number.invariant.rows
    ∙ ap (map (λ schema. set.from_list {R = row_cmp} (rows_named c.args.opening.now schema.name)))
    (take_all c.loop-number.number c.args.catalogue.now.tables
    (omega (arith, c.loop-number-test.false, ap length c.as_slice-schema-items.ensures)))
    ∙ opened c.args.opening.now c.args.catalogue.now.tables c.requires.tables
