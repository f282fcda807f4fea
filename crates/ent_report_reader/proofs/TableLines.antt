-- The lines of the tables at the end.
use Rattle.std.proofs.Common.{◌≡◌, ℕ, ◌≤◌, List, [], ◌∷◌, ◌++◌, length, Some, ap, sym, ◌∙◌, arith}
use Rattle.std.specs.Prelude.{slice_get}
use Rattle.ent_value.specs.Print.{row_text}
use Rattle.ent_value.specs.declared.limits.TheConstants.{MOST_ROWS}
use Rattle.ent_value.specs.declared.value.Value.{Value}
use Rattle.ent_tree.specs.declared.declaration.Create.{Create}
use Rattle.ent_book.specs.Report.{line}
use Rattle.ent_history.specs.declared.history.Shown.{Shown}
use Rattle.ent_history.specs.Counts.{table_line}
use Rattle.std.proofs.lemmas.Option.{same_Some}
use Rattle.ent_history.specs.Draft.{Draft, Due, TableRows, on_last, rows_due}
use Rattle.ent_history.specs.Tables.{TableRowStands, TableStands, with_table_row}
use Rattle.ent_report_reader.specs.Due.{TableTakes, TablesAreNext}
use Rattle.ent_report_reader.specs.Reading.{IsRowLine, IsTableLine}
use Rattle.ent_report_reader.proofs.Steps.{same_line}

pub table_is_next : (old : Draft) (text : List ℕ) (next : Draft) → TableStands old (line text) next → TablesAreNext old
table_is_next old text next stands = record { free = stands.free; told = stands.told }

-- the table is this one
pub table_has : (old : Draft) (text : List ℕ) (create : Create)
    → slice_get old.told.opening.tables (length old.told.tables) ≡ Some create → (next : Draft)
    → (stands : TableStands old (line text) next) → IsTableLine create.name.name text stands.count
table_has old text create there next stands =
    let same : stands.create ≡ create = same_Some stands.create create (sym stands.of_opening ∙ there) in
    let few : stands.count ≤ MOST_ROWS = stands.few in (
      same_line text (table_line stands.create.name.name stands.count) stands.text_is
          ∙ ap (λ (c : Create). table_line c.name.name stands.count) same,
      omega (arith, few),
    )

pub table_stands : (old : Draft) (text : List ℕ) (create : Create) (count : ℕ) → TablesAreNext old
    → slice_get old.told.opening.tables (length old.told.tables) ≡ Some create
    → IsTableLine create.name.name text count → count ≤ MOST_ROWS → (tables : List Shown)
    → tables ≡ old.told.tables ++ record { name = create.name.name; rows = [] } ∷ []
    → (due : Due) → due ≡ rows_due TableRows count
    → TableStands old (line text) (record { told = record old.told { tables = tables }; due = due })
table_stands old text create count is_due there is few tables grown due rows = record {
  create = create;
  count = count;
  free = is_due.free;
  told = is_due.told;
  of_opening = there;
  text_is = ap line is.0;
  few = few;
  next_is = λ i. record { told = record old.told { tables = grown i }; due = rows i };
}

-- ---- rows

pub table_row_has : (old : Draft) (text : List ℕ) (next : Draft) → (stands : TableRowStands old (line text) next)
    → IsRowLine text stands.row
table_row_has old text next stands = (same_line text (row_text stands.row) stands.text_is, stands.is_row)

pub table_row_takes : (old : Draft) (text : List ℕ) (next : Draft) → (stands : TableRowStands old (line text) next)
    → TableTakes old.told stands.row
table_row_takes old text next stands = record {
  shown = stands.shown;
  create = stands.create;
  last_is = stands.last_is;
  of_opening = stands.of_opening;
  kinds = stands.kinds;
  ascends = stands.ascends;
}

pub table_row_stands : (old : Draft) (text : List ℕ) (more : ℕ) (row : List Value) → old.due ≡ TableRows more
    → IsRowLine text row → TableTakes old.told row → (tables : List Shown)
    → tables ≡ on_last (with_table_row row) old.told.tables → (due : Due) → due ≡ rows_due TableRows more
    → TableRowStands old (line text) (record { told = record old.told { tables = tables }; due = due })
table_row_stands old text more row is_due is takes tables grown due rows = record {
  more = more;
  shown = takes.shown;
  create = takes.create;
  row = row;
  due = is_due;
  last_is = takes.last_is;
  of_opening = takes.of_opening;
  text_is = ap line is.0;
  is_row = is.1;
  kinds = takes.kinds;
  ascends = takes.ascends;
  next_is = λ i. record { told = record old.told { tables = grown i }; due = rows i };
}
