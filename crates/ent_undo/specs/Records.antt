-- What the log's records say.
use Rattle.std.specs.Prelude.{ℕ, Bool, List, map}
use Rattle.std.specs.Arc.{arc_value}
use Rattle.ent_undo.specs.declared.undo_log.UndoRecord.{UndoRecord}
use Rattle.ent_undo.specs.Change.{Change, is_of_others}

abbrev pub change_of : UndoRecord → Change
change_of r = record { tx = r.tx; table = r.table; before = arc_value r.before }

abbrev pub changes_in : List UndoRecord → List Change
changes_in records = map change_of records

abbrev pub is_record_of_others : List ℕ → UndoRecord → Bool
is_record_of_others members r = is_of_others members (change_of r)
