-- Rows that are given as values, behind those of an opening.
use Rattle.std.specs.Prelude.{◌≡◌, ◌≤◌, ◌<◌, ◌+◌, ℕ, suc, List, [], ◌∷◌, ◌++◌, length, map, Some, None}
use Rattle.ent_value.specs.declared.value.Value.{Value}
use Rattle.ent_tree.specs.declared.declaration.Opening.{Opening}
use Rattle.ent_tree.specs.declared.declaration.OpeningRow.{OpeningRow}
use Rattle.ent_tree.specs.declared.limits.TheConstants.{MOST_OPENING_ROWS}
use Rattle.ent_tree.specs.declared.operand.Literal.{Literal}
use Rattle.ent_form.specs.Catalogue.{schemas_of}
use Rattle.ent_form.specs.Fault.{place_of}
use Rattle.ent_form.specs.OpeningFault.{Check, first_of, opening_row_fault}
use Rattle.ent_form.specs.declared.catalogue.TableSchema.{TableSchema}
use Rattle.ent_form.specs.declared.fault.FormFault.{FormFault}
use Rattle.ent_prepare.specs.declared.row.GivenRow.{GivenRow}

-- a value of the row of this number, which is its place: it stands in no text
abbrev pub literal_at : ℕ → Value → Literal
literal_at number value = record { value = value; place = number }

-- the row of this number, as an opening has it
abbrev pub opening_row : ℕ → GivenRow → OpeningRow
opening_row number row = record {
  table = record { name = row.table; place = number };
  place = number;
  values = map (literal_at number) row.values;
}

-- rows in order, numbered from this number on
abbrev pub opening_rows : ℕ → List GivenRow → List OpeningRow
opening_rows number [] = []
opening_rows number (row ∷ more) = opening_row number row ∷ opening_rows (suc number) more

-- the same opening, with these rows behind its own, numbered from 0
abbrev pub with_rows : List GivenRow → Opening → Opening
with_rows rows opening = record opening { rows = opening.rows ++ opening_rows 0 rows }

-- ---- faults

-- the first fault of rows over these tables
abbrev pub rows_fault : List TableSchema → List GivenRow → Check
rows_fault tables rows = first_of (opening_row_fault tables) (opening_rows 0 rows)

-- a row has the fault, those before it have none, and the place of the fault is its number
pub record IsOfFirst (tables : List TableSchema) (rows : List GivenRow) (fault : FormFault) : Type 0 where
  pub earlier : List GivenRow
  pub row : GivenRow
  pub later : List GivenRow
  pub all : earlier ++ row ∷ later ≡ rows
  pub clean : rows_fault tables earlier ≡ None
  pub faulty : opening_row_fault tables (opening_row (length earlier) row) ≡ Some fault
  pub number : place_of fault ≡ length earlier

-- ---- behind the rows of an opening

-- with its own they are more than an opening has
abbrev pub AreTooMany : Opening → List GivenRow → Type 0
AreTooMany opening rows = MOST_OPENING_ROWS < length opening.rows + length rows

-- the opening has room for them, and none has a fault
pub record CanStand (opening : Opening) (rows : List GivenRow) : Type 0 where
  pub room : length opening.rows + length rows ≤ MOST_OPENING_ROWS
  pub formed : rows_fault (schemas_of opening.tables) rows ≡ None

-- the opening has room for them, and this is the fault of the first that has one
pub record IsFirstFault (opening : Opening) (rows : List GivenRow) (fault : FormFault) : Type 0 where
  pub room : length opening.rows + length rows ≤ MOST_OPENING_ROWS
  pub first : IsOfFirst (schemas_of opening.tables) rows fault
