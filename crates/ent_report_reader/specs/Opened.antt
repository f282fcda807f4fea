-- The opening as far as it is told, and the last row of its last table.
use Rattle.std.specs.Prelude.{◌≡◌, ◌≤◌, ◌+◌, ℕ, length, ◌⊎◌, List, [], map, Option, Some, None}
use Rattle.std.specs.List.{AllByRecursion}
use Rattle.std.specs.Cmp.Lexicographic.{slice_cmp}
use Rattle.std.specs.Ordering.{nat_cmp}
use Rattle.std.specs.declared.cmp.Ordering.TheVariants.{Less}
use Rattle.ent_value.specs.Value.{kinds_of, row_cmp}
use Rattle.ent_value.specs.declared.value.Value.{Value}
use Rattle.ent_tree.specs.declared.declaration.Create.{Create}
use Rattle.ent_tree.specs.declared.declaration.Opening.{Opening}
use Rattle.ent_tree.specs.declared.declaration.OpeningRow.{OpeningRow}
use Rattle.ent_tree.specs.declared.limits.TheConstants.{MOST_OPENING_ROWS}
use Rattle.ent_tree.specs.declared.operand.Literal.{Literal}
use Rattle.ent_semantics.specs.Database.{Name, rows_named}
use Rattle.ent_history.specs.Opening.{NamesAscend}
use Rattle.ent_history.specs.Parts.{Ascends}
use Rattle.ent_history.specs.Draft.{last_of}

-- the name comes before the other, or is the same
abbrev pub IsUpTo : Name → Name → Type 0
IsUpTo name other = (slice_cmp nat_cmp name other ≡ Less) ⊎ (name ≡ other)

-- No row is of a table behind the last, and this is the last row of the last table.
pub record IsInOrder (tables : List Create) (rows : List OpeningRow) (last_row : Option (List Value)) : Type 0 where
  pub reached : (create : Create) → last_of tables ≡ Some create
      → AllByRecursion (λ row. IsUpTo row.table.name create.name.name) rows
  pub own : (create : Create) → last_of tables ≡ Some create
      → last_of (rows_named (record { tables = tables; rows = rows }) create.name.name) ≡ last_row
  pub none : last_of tables ≡ None → rows ≡ []

-- where there is a last row, it comes before this one
abbrev pub EndsBelow : Option (List Value) → List Value → Type 0
EndsBelow None row = Unit {0}
EndsBelow (Some last) row = row_cmp last row ≡ Less

-- a row that can stand below those of the last table
pub record OpeningTakes (opening : Opening) (row : List Value) : Type 0 where
  pub create : Create
  pub last : last_of opening.tables ≡ Some create
  pub kinds : kinds_of row ≡ map (λ column. column.kind) create.columns
  pub ascends : Ascends (rows_named opening create.name.name) row

-- a table with so many rows that can stand below those above
pub record Opens (opening : Opening) (create : Create) (count : ℕ) : Type 0 where
  pub ascends : NamesAscend opening.tables create
  pub few_rows : length opening.rows + count ≤ MOST_OPENING_ROWS

abbrev pub literals_of : List Value → List Literal
literals_of row = map (λ value. record { value = value; place = 0 }) row
