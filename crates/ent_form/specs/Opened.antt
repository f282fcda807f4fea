-- The tables that an input begins with, in the order of their declaration.
use Rattle.std.specs.Prelude.{map}
use Rattle.ent_lists.specs.Sets as set
use Rattle.ent_value.specs.Value.{row_cmp}
use Rattle.ent_tree.specs.declared.declaration.Opening.{Opening}
use Rattle.ent_semantics.specs.Database.{rows_named}
use Rattle.ent_semantics.specs.Form.{Tables}

abbrev pub opening_tables : Opening → Tables
opening_tables opening =
    map (λ create. set.from_list {R = row_cmp} (rows_named opening create.name.name)) opening.tables
