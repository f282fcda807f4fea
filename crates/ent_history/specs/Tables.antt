-- The lines of the tables at the end, and the last line.
use Rattle.std.specs.Prelude.{◌≡◌, ◌≤◌, ℕ, List, [], ◌∷◌, ◌++◌, length, map, Some, slice_get, codes}
use Rattle.std.specs.Fmt.{decimal}
use Rattle.ent_value.specs.Value.{kinds_of}
use Rattle.ent_value.specs.declared.limits.TheConstants.{MOST_ROWS}
use Rattle.ent_value.specs.declared.value.Value.{Value}
use Rattle.ent_tree.specs.declared.declaration.Create.{Create}
use Rattle.ent_semantics.specs.Database.{Name}
use Rattle.ent_semantics.specs.Serial.{numbered}
use Rattle.ent_book.specs.Report.{line, row_line}
use Rattle.ent_history.specs.declared.history.Shown.{Shown}
use Rattle.ent_history.specs.Parts.{IsRow, Ascends}
use Rattle.ent_history.specs.Draft.{Draft, Free, TableRows, Ended, rows_due, on_last, last_of, TransactionsAreTold}

-- a table's line
abbrev pub table_line_text : Name → ℕ → List ℕ
table_line_text name count = line (codes "table " ++ (name ++ (codes " " ++ decimal count)))

-- A table: `table`, its name, and how many rows follow, at most 65,536. The tables are those of the opening, in its
-- order.
pub record TableStands (draft : Draft) (text : List ℕ) (next : Draft) : Type 0 where
  pub create : Create
  pub count : ℕ
  pub free : draft.due ≡ Free
  pub told : TransactionsAreTold draft.told
  pub of_opening : slice_get draft.told.opening.tables (length draft.told.tables) ≡ Some create
  pub text_is : text ≡ table_line_text create.name.name count
  pub few : count ≤ MOST_ROWS
  pub next_is : next ≡ record {
    told = record draft.told {
      tables = draft.told.tables ++ record { name = create.name.name; rows = [] } ∷ [];
    };
    due = rows_due TableRows count;
  }

abbrev pub with_table_row : List Value → Shown → Shown
with_table_row row shown = record { name = shown.name; rows = shown.rows ++ row ∷ [] }

-- A row of the last table: of the kinds of its columns, ascending.
pub record TableRowStands (draft : Draft) (text : List ℕ) (next : Draft) : Type 0 where
  pub more : ℕ
  pub shown : Shown
  pub create : Create
  pub row : List Value
  pub due : draft.due ≡ TableRows more
  pub last_is : last_of draft.told.tables ≡ Some shown
  pub of_opening : numbered draft.told.opening.tables (length draft.told.tables) ≡ Some create
  pub text_is : text ≡ row_line row
  pub is_row : IsRow row
  pub kinds : kinds_of row ≡ map (λ column. column.kind) create.columns
  pub ascends : Ascends shown.rows row
  pub next_is : next ≡ record {
    told = record draft.told { tables = on_last (with_table_row row) draft.told.tables };
    due = rows_due TableRows more;
  }

-- The last line: `end`, below all tables.
pub record EndStands (draft : Draft) (text : List ℕ) (next : Draft) : Type 0 where
  pub free : draft.due ≡ Free
  pub told : TransactionsAreTold draft.told
  pub tables : length draft.told.tables ≡ length draft.told.opening.tables
  pub text_is : text ≡ line (codes "end")
  pub next_is : next ≡ record { told = draft.told; due = Ended }
