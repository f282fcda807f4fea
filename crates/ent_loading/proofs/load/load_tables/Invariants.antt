use Rattle.std.proofs.Common.{◌≡◌, map, take}
use Rattle.std.specs.Arc.{arc_value}
use Rattle.ent_lists.specs.Sets as set
use Rattle.ent_value.specs.Value.{row_cmp}
use Rattle.ent_semantics.specs.Database.{rows_named}
use Rattle.ent_form.specs.TableKinds.{column_kinds}
use Rattle.ent_loading.proofs.load.load_tables.Given as goal

-- the tables so far
abbrev pub invariant-loop-number : goal.invariant-loop-number
invariant-loop-number l = record {
  rows : map (λ table. table.rows) (map arc_value l.tables.items) ≡ map
      (λ schema. set.from_list {R = row_cmp} (rows_named l.opening schema.name)) (take l.number l.catalogue.tables);
  kinds : map (λ table. table.kinds) (map arc_value l.tables.items) ≡ map column_kinds
      (take l.number l.catalogue.tables);
}
