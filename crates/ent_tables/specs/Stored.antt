-- The tables of a core as they stand, what members changed in them, and what becomes of both.
use Rattle.std.specs.Prelude.{◌≡◌, ℕ, ◌==◌, Bool, not, List, [], ◌∷◌, map, reverse, slice_get, slice_index_or}
use Rattle.std.specs.Prelude.{slice_set, Some}
use Rattle.std.specs.List.{AllByRecursion, filter, list_any}
use Rattle.ent_lists.specs.Sets as set
use Rattle.ent_value.specs.declared.value.Kind.{Kind}
use Rattle.ent_value.specs.declared.value.Value.{Value}
use Rattle.ent_tree.specs.declared.declaration.Create.{Create}
use Rattle.ent_rel.specs.Relation.{Relation}
use Rattle.ent_undo.specs.Change.{Change as Noted}
use Rattle.ent_semantics.specs.Database.{Rows}
use Rattle.ent_semantics.specs.Form.{Tables}
use Rattle.ent_ordinary.specs.Tables.{kinds_in, rows_in}
use Rattle.ent_protocol.specs.Finish.{noted, with_change}
use Rattle.ent_protocol.specs.Rollback.{is_among, put_back}
use Rattle.ent_protocol.specs.State.{Member, Change}

pub record Stored : Type 0 where
  -- the kinds of the columns of each table, in the order of their declaration
  pub kinds : List (List Kind)
  -- the present rows of each table
  pub tables : Tables
  -- what members changed, the newest first
  pub changes : List Change

-- ---- how it is kept

abbrev pub change_seen : Noted → Change
change_seen change = record { tx = change.tx; table = change.table; before = change.before.rows }

-- the undo log's notes, the newest first
abbrev pub changes_seen : List Noted → List Change
changes_seen log = reverse (map change_seen log)

-- each note is of a table that is there, as it stood in the kinds of that table
abbrev pub AreOfTables : List (List Kind) → List Noted → Type 0
AreOfTables kinds log = AllByRecursion (λ change. slice_get kinds change.table ≡ Some change.before.kinds) log

-- tables, and the notes of what was changed in them
abbrev pub stored_of : List Relation → List Noted → Stored
stored_of tables log =
    record { kinds = kinds_in tables; tables = rows_in tables; changes = changes_seen log }

-- ---- what is asked

-- the kinds of the columns of each table, as they are declared
abbrev pub kinds_declared : List Create → List (List Kind)
kinds_declared declared = map (λ create. map (λ column. column.kind) create.columns) declared

-- the table of a number
abbrev pub relation_at : Stored → ℕ → Relation
relation_at stored table =
    record {
      kinds = slice_index_or stored.kinds table [];
      rows = slice_index_or stored.tables table set.empty;
    }

-- the rows of a table, and the kinds of its columns
abbrev pub rows_of : Relation → Rows
rows_of table = table.rows

abbrev pub kinds_of : Relation → List Kind
kinds_of table = table.kinds

-- ---- what becomes of it

-- a transaction removes rows from a table and puts others in
abbrev pub changed : ℕ → ℕ → List (List Value) → List (List Value) → Stored → Stored
changed tx table removed added stored =
    record stored {
      tables = with_change (table ∷ []) removed added stored.tables;
      changes = noted tx (table ∷ []) stored.tables stored.changes;
    }

-- the newest change is taken back, where there is one
abbrev pub taken_back : Stored → Stored
taken_back stored = without stored.changes
  where
    without : List Change → Stored
    without [] = stored
    without (newest ∷ more) =
        record stored {
          tables = slice_set stored.tables newest.table newest.before;
          changes = more;
        }

-- a change is by one of these transactions
abbrev pub is_by : List ℕ → Change → Bool
is_by numbers change = list_any (λ n. n == change.tx) numbers

-- the changes by others than these transactions, in their order
abbrev pub by_others : List ℕ → List Change → List Change
by_others numbers changes = filter (λ change. not (is_by numbers change)) changes

-- what these transactions changed stays, and can't be taken back any more
abbrev pub settled : List ℕ → Stored → Stored
settled numbers stored = record stored { changes = by_others numbers stored.changes }

-- what these transactions changed is put back, the newest change first
abbrev pub rolled_back : List ℕ → Stored → Stored
rolled_back numbers stored =
    record stored {
      tables = put_back (filter (is_by numbers) stored.changes) stored.tables;
      changes = by_others numbers stored.changes;
    }

-- ---- the same of members

abbrev pub settled_with : List Member → Stored → Stored
settled_with gone stored =
    record stored { changes = filter (λ change. not (is_among gone change.tx)) stored.changes }

abbrev pub rolled_back_with : List Member → Stored → Stored
rolled_back_with gone stored =
    record stored {
      tables = put_back (filter (λ change. is_among gone change.tx) stored.changes) stored.tables;
      changes = filter (λ change. not (is_among gone change.tx)) stored.changes;
    }
