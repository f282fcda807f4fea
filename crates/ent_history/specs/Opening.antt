-- The lines of the opening.
use Rattle.std.specs.Prelude.{◌≡◌, ◌≤◌, ◌<◌, ◌+◌, ℕ, List, [], ◌∷◌, ◌++◌, length, map, Some, codes, AllPairs, ◌≢◌}
use Rattle.std.specs.List.{AllByRecursion}
use Rattle.std.specs.Cmp.Lexicographic.{slice_cmp}
use Rattle.std.specs.Ordering.{nat_cmp}
use Rattle.std.specs.declared.cmp.Ordering.TheVariants.{Less}
use Rattle.ent_value.specs.Value.{kinds_of}
use Rattle.ent_value.specs.declared.value.Value.{Value}
use Rattle.ent_tree.specs.declared.declaration.Column.{Column}
use Rattle.ent_tree.specs.declared.declaration.Create.{Create}
use Rattle.ent_tree.specs.declared.declaration.Opening.{Opening}
use Rattle.ent_tree.specs.declared.limits.TheConstants.{MOST_TABLES, MOST_PARTS, MOST_OPENING_ROWS}
use Rattle.ent_semantics.specs.Database.{rows_named}
use Rattle.ent_book.specs.Report.{line, row_line}
use Rattle.ent_book.specs.Report2.{opening_line}
use Rattle.ent_history.specs.Told.{opening_row}
use Rattle.ent_history.specs.Parts.{IsName, IsRow, Ascends}
use Rattle.ent_history.specs.Draft.{Draft, Free, Heading, OpeningRows, rows_due, last_of, NothingBelowScripts}

-- The heading: `report 2`.
pub record HeadingStands (draft : Draft) (text : List ℕ) (next : Draft) : Type 0 where
  pub due : draft.due ≡ Heading
  pub text_is : text ≡ line (codes "report 2")
  pub next_is : next ≡ record { told = draft.told; due = Free }

-- a table that a line can open: its name and its columns, without places, 1 to 16 of them, of distinct names
pub record IsDeclaration (create : Create) : Type 0 where
  pub name : IsName create.name.name
  pub unplaced : create.name.place ≡ 0
  pub some : 1 ≤ length create.columns
  pub few : length create.columns ≤ MOST_PARTS
  pub columns : AllByRecursion (λ column. IsName column.name.name × (column.name.place ≡ 0)) create.columns
  pub distinct : AllPairs (λ (first second : Column). first.name.name ≢ second.name.name) create.columns

-- where a table stands last above it, that one's name comes before it, by bytes
abbrev pub NamesAscend : List Create → Create → Type 0
NamesAscend tables create =
    (front : List Create) (last : Create) → tables ≡ front ++ last ∷ []
    → slice_cmp nat_cmp last.name.name create.name.name ≡ Less

-- an opening behind one more table, or row
abbrev pub with_table : Create → Opening → Opening
with_table create opening = record opening { tables = opening.tables ++ create ∷ [] }

abbrev pub with_row : Create → List Value → Opening → Opening
with_row create row opening = record opening { rows = opening.rows ++ opening_row create.name.name row ∷ [] }

-- what is told behind a table's line, where so many rows are due
abbrev pub with_opening_table : Draft → Create → ℕ → Draft
with_opening_table draft create count = record {
  told = record draft.told { opening = with_table create draft.told.opening };
  due = rows_due OpeningRows count;
}

-- A table: `opening`, its name, its columns, and how many rows follow. There are at most 64 tables, and 65,536 rows in
-- all of them.
pub record OpeningStands (draft : Draft) (text : List ℕ) (next : Draft) : Type 0 where
  pub create : Create
  pub count : ℕ
  pub free : draft.due ≡ Free
  pub no_scripts : draft.told.scripts ≡ []
  pub nothing_below : NothingBelowScripts draft.told
  pub text_is : text ≡ opening_line create.name.name create.columns count
  pub declaration : IsDeclaration create
  pub ascends : NamesAscend draft.told.opening.tables create
  pub few_tables : length draft.told.opening.tables < MOST_TABLES
  pub few_rows : length draft.told.opening.rows + count ≤ MOST_OPENING_ROWS
  pub next_is : next ≡ with_opening_table draft create count

-- what is told behind a row of the last table, where so many more rows are due
abbrev pub with_opening_row : Draft → Create → List Value → ℕ → Draft
with_opening_row draft create row more = record {
  told = record draft.told { opening = with_row create row draft.told.opening };
  due = rows_due OpeningRows more;
}

-- A row of the last table: of the kinds of its columns, ascending.
pub record OpeningRowStands (draft : Draft) (text : List ℕ) (next : Draft) : Type 0 where
  pub more : ℕ
  pub create : Create
  pub row : List Value
  pub due : draft.due ≡ OpeningRows more
  pub last : last_of draft.told.opening.tables ≡ Some create
  pub text_is : text ≡ row_line row
  pub is_row : IsRow row
  pub kinds : kinds_of row ≡ map (λ column. column.kind) create.columns
  pub ascends : Ascends (rows_named draft.told.opening create.name.name) row
  pub next_is : next ≡ with_opening_row draft create row more
