-- The kinds of a table's columns, by its name.
use Rattle.std.specs.Prelude.{List, [], ◌∷◌, Option, Some, None, if◌then◌else◌}
use Rattle.ent_value.specs.declared.value.Kind.{Kind}
use Rattle.ent_tree.specs.declared.declaration.Opening.{Opening}
use Rattle.ent_semantics.specs.Database.{Name, same_name}
use Rattle.ent_protocol.specs.Reached.{table_names}
use Rattle.ent_tables.specs.Stored.{kinds_declared}

-- what stands under a name, in a list that goes with the names
abbrev pub under : {A : Type 0} → List Name → List A → Name → Option A
under [] xs name = None
under (first ∷ names) [] name = None
under (first ∷ names) (x ∷ xs) name = if same_name first name then Some x else under names xs name

-- the declared kinds of the columns of the table of a name, where one is declared
abbrev pub kinds_of_table : Opening → Name → Option (List Kind)
kinds_of_table opening name = under (table_names opening) (kinds_declared opening.tables) name
