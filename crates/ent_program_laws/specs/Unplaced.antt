-- Openings, runs and books with the places in their trees left aside: each place is 0.
use Rattle.std.specs.Prelude.{map}
use Rattle.ent_tree.specs.Places.{unplaced_identifier, unplaced_literal, unplaced_entangled, unplaced_statement}
use Rattle.ent_tree.specs.Places.{unplaced_script}
use Rattle.ent_tree.specs.declared.declaration.Column.{Column}
use Rattle.ent_tree.specs.declared.declaration.Create.{Create}
use Rattle.ent_tree.specs.declared.declaration.Opening.{Opening}
use Rattle.ent_tree.specs.declared.declaration.OpeningRow.{OpeningRow}
use Rattle.ent_semantics.specs.declared.book.Book.{Book}
use Rattle.ent_semantics.specs.Database.{Database}
use Rattle.ent_semantics.specs.Serial.{Operation, ReadView, Turn}

-- a column of a declaration
abbrev pub unplaced_declared : Column → Column
unplaced_declared column = record { name = unplaced_identifier column.name; kind = column.kind }

abbrev pub unplaced_create : Create → Create
unplaced_create create = record {
  name = unplaced_identifier create.name;
  columns = map unplaced_declared create.columns;
}

abbrev pub unplaced_row : OpeningRow → OpeningRow
unplaced_row row = record {
  table = unplaced_identifier row.table;
  place = 0;
  values = map unplaced_literal row.values;
}

abbrev pub unplaced_opening : Opening → Opening
unplaced_opening opening = record {
  tables = map unplaced_create opening.tables;
  rows = map unplaced_row opening.rows;
}

-- ---- runs

abbrev pub unplaced_operation : Operation → Operation
unplaced_operation operation = record operation { statement = unplaced_statement operation.statement }

abbrev pub unplaced_turn : Turn → Turn
unplaced_turn turn = record turn { script = unplaced_script turn.script }

-- what an entangled statement sees; its own place in the script counts statements, and stays
abbrev pub unplaced_read_view : ReadView → ReadView
unplaced_read_view read_view = record read_view { entangled = unplaced_entangled read_view.entangled }

-- ---- books

-- the opening and the scripts without places, all else as it is
abbrev pub unplaced_book : Book Database → Book Database
unplaced_book book = record book {
  opening = unplaced_opening book.opening;
  scripts = map unplaced_script book.scripts;
}
