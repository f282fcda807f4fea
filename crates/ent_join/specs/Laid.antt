-- Tables in which those that statements name hold given rows.
use Rattle.std.specs.Prelude.{◌≡◌, ◌==◌, ℕ, List, [], ◌∷◌, Option, Some, None, slice_index_or, if◌then◌else◌}
use Rattle.std.specs.List.{AllByRecursion}
use Rattle.ent_lists.specs.Sets as set
use Rattle.ent_rel.specs.Numbered.{Numbered}
use Rattle.ent_semantics.specs.Form.{Tables}
use Rattle.ent_semantics.specs.Pool.{Posted}
use Rattle.ent_plan.specs.Tables.{source_tables}

-- the table of a number
abbrev pub table_at : ℕ → List Numbered → Option Numbered
table_at number [] = None
table_at number (table ∷ tables) = if table.table == number then Some table else table_at number tables

-- the table of a number is there, and holds the rows that are laid under the number
abbrev pub IsLaid : List Numbered → Tables → ℕ → Type 0
IsLaid tables laid number =
    (table : Numbered) × (table_at number tables ≡ Some table)
    × (table.rows ≡ slice_index_or laid number set.empty)

-- so is each table that the statements name
abbrev pub AreLaid : List Posted → List Numbered → Tables → Type 0
AreLaid members tables laid = AllByRecursion (IsLaid tables laid) (source_tables members)
