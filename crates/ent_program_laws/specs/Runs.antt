-- What scripts that can run leave, answer and see, one after the other, over tables whose values can be told and where
-- each entangled statement is answered by a grounding.
use Rattle.std.specs.Prelude.{◌≡◌, Contains, List, [], None, Some}
use Rattle.std.specs.List.{AllByRecursion}
use Rattle.ent_tree.specs.declared.declaration.Create.{Create}
use Rattle.ent_semantics.specs.Database.{Database}
use Rattle.ent_semantics.specs.Joint.{member_of}
use Rattle.ent_semantics.specs.Serial.{ReadView, Runs, Turn, numbered, scripts_run, scripts_read_views}
use Rattle.ent_form.specs.OpeningFault.{declarations_fault}
use Rattle.ent_history.specs.Told.{told_member}
use Rattle.ent_history.specs.declared.history.History.{History}
use Rattle.ent_report_laws.specs.Tellable.{IsMemberTold}
use Rattle.ent_program_laws.specs.Answered.{AreGrounded, AreTurnsAnswered, CanBeCounted, CanRun}
use Rattle.ent_program_laws.specs.Held.{HoldsRowsOf}

-- they leave such tables
abbrev pub RunsHoldRows : Type 0
RunsHoldRows =
    (declared : List Create) (turns : List Turn) (database : Database) (runs : Runs)
    → declarations_fault [] declared ≡ None
    → ((turn : Turn) → Contains turns turn → CanRun declared turn.script)
    → HoldsRowsOf declared database
    → AreGrounded declared (scripts_read_views declared turns database)
    → scripts_run declared turns database ≡ Some runs
    → HoldsRowsOf declared runs.database

-- they answer what can be told, where a report can say how many rows there are
abbrev pub RunsAreAnswered : Type 0
RunsAreAnswered =
    (declared : List Create) (turns : List Turn) (database : Database) (runs : Runs)
    → declarations_fault [] declared ≡ None
    → ((turn : Turn) → Contains turns turn → CanRun declared turn.script)
    → HoldsRowsOf declared database
    → AreGrounded declared (scripts_read_views declared turns database)
    → scripts_run declared turns database ≡ Some runs
    → AllByRecursion (AllByRecursion CanBeCounted) runs.answers
    → AreTurnsAnswered turns runs.answers

-- What each entangled statement sees, with its grounding, is a member that a history of these tables and scripts can
-- tell.
abbrev pub ReadViewsAreTold : Type 0
ReadViewsAreTold =
    (history : History) (turns : List Turn) (database : Database) (read_view : ReadView)
    → declarations_fault [] history.opening.tables ≡ None
    → ((turn : Turn) → Contains turns turn → CanRun history.opening.tables turn.script)
    → ((turn : Turn) → Contains turns turn → numbered history.scripts turn.tx ≡ Some turn.script)
    → HoldsRowsOf history.opening.tables database
    → AreGrounded history.opening.tables (scripts_read_views history.opening.tables turns database)
    → Contains (scripts_read_views history.opening.tables turns database) read_view
    → IsMemberTold history (told_member history.scripts (member_of read_view))
