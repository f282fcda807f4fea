-- Whether a SELECT shows a row.
use Rattle.std.specs.Prelude.{Bool, List, map}
use Rattle.ent_lists.specs.Sets as set
use Rattle.ent_value.specs.declared.value.Value.{Value}
use Rattle.ent_semantics.specs.Database.{Rows}
use Rattle.ent_semantics.specs.Selection.{meets, selection}
use Rattle.ent_semantics.specs.declared.statement.Select.{Select}
use Rattle.ent_ordinary.specs.Worth.{worth_over}

-- a row is in the result of a SELECT over these rows of its sources
abbrev pub is_shown : Select Value → List Rows → List Value → Bool
is_shown select sources row =
    set.contains (selection (meets worth_over select.tests) (λ combination. map (worth_over combination) select.items)
    sources) row
