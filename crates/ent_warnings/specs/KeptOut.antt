-- Scripts that change a table.
use Rattle.std.specs.Prelude.{Bool}
use Rattle.std.specs.List.{list_any}
use Rattle.ent_semantics.specs.Database.{Name}
use Rattle.ent_semantics.specs.Uses.{changes}
use Rattle.ent_tree.specs.declared.script.Script.{Script}

-- a statement of the script changes the table
abbrev pub writes : Name → Script → Bool
writes table script = list_any (λ statement. changes statement table) script.statements
