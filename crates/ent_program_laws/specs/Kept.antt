-- What it means that openings, statements, groundings and runs keep to values with a property.
use Rattle.std.specs.Prelude.{◌≡◌, true, Contains, List, [], Ok, Some}
use Rattle.std.specs.List.{AllByRecursion}
use Rattle.ent_lists.specs.Sets as set
use Rattle.ent_value.specs.declared.value.Value.{Value}
use Rattle.ent_tree.specs.declared.declaration.Create.{Create}
use Rattle.ent_tree.specs.declared.declaration.Opening.{Opening}
use Rattle.ent_tree.specs.declared.declaration.OpeningRow.{OpeningRow}
use Rattle.ent_tree.specs.declared.entangled.Entangled.{Entangled}
use Rattle.ent_tree.specs.declared.script.Script.{Script}
use Rattle.ent_tree.specs.declared.script.Statement.{Statement}
use Rattle.ent_tree.specs.declared.script.Statement.TheVariants as statements
use Rattle.ent_semantics.specs.Database.{Database, Environment, Name, opening_database, row_of}
use Rattle.ent_semantics.specs.Effect.{Effect}
use Rattle.ent_semantics.specs.Entangled.{Valuation, is_grounding}
use Rattle.ent_semantics.specs.Serial.{Runs, ReadView, Turn, scripts_run, scripts_read_views}
use Rattle.ent_semantics.specs.Statement.{statement_meaning}
use Rattle.ent_form.specs.Catalogue.{schemas_of}
use Rattle.ent_form.specs.ScriptFaults.{script_faults}
use Rattle.ent_program_laws.specs.Answered.{AreGrounded}
use Rattle.ent_program_laws.specs.Values.{AnswersValues, BindsValues, HoldsValues, LeavesValues, ScriptWrites}
use Rattle.ent_program_laws.specs.Values.{WritesValues}

-- P is a property of values that all numbers have
module _ (P : Value → Type 0) where
  -- An opening whose rows have such values begins with tables that hold them.
  abbrev pub OpeningsKeep : Type 0
  OpeningsKeep =
      (opening : Opening)
      → ((row : OpeningRow) → Contains opening.rows row → AllByRecursion P (row_of row))
      → HoldsValues P (opening_database opening)

  -- The rows of tables that hold such values, in order, have them.
  abbrev pub TablesShow : Type 0
  TablesShow =
      (database : Database) (name : Name)
      → HoldsValues P database
      → AllByRecursion (AllByRecursion P) (set.ascending (database name))

  -- A statement that writes such values, over tables and host variables with such values and under a valuation of such,
  -- leaves and answers such values.
  abbrev pub StatementsKeep : Type 0
  StatementsKeep =
      (declared : List Create) (statement : Statement) (valuation : Valuation) (database : Database)
      (environment : Environment) (effect : Effect Database)
      → WritesValues P statement
      → AllByRecursion P valuation
      → HoldsValues P database
      → BindsValues P environment
      → statement_meaning declared statement valuation database environment ≡ Ok effect
      → LeavesValues P effect

  -- A grounding of an entangled statement that writes such values, over such tables and host variables, has such
  -- values, where the script that the statement is of has no fault of form.
  abbrev pub GroundingsKeep : Type 0
  GroundingsKeep =
      (declared : List Create) (script : Script) (entangled : Entangled) (database : Database)
      (environment : Environment) (valuation : Valuation)
      → script_faults (schemas_of declared) script ≡ []
      → Contains script.statements (statements.Entangled entangled)
      → WritesValues P (statements.Entangled entangled)
      → HoldsValues P database
      → BindsValues P environment
      → is_grounding declared database environment entangled valuation ≡ true
      → AllByRecursion P valuation

  -- scripts without a fault of form that write such values
  pub record CanKeep (declared : List Create) (turns : List Turn) : Type 0 where
    pub resolved : (turn : Turn) → Contains turns turn → script_faults (schemas_of declared) turn.script ≡ []
    pub writes : (turn : Turn) → Contains turns turn → ScriptWrites P turn.script

  -- Such scripts that run one after the other over such tables, each entangled statement answered by a grounding, leave
  -- and answer such values.
  abbrev pub RunsKeep : Type 0
  RunsKeep =
      (declared : List Create) (turns : List Turn) (database : Database) (runs : Runs)
      → CanKeep declared turns
      → HoldsValues P database
      → AreGrounded declared (scripts_read_views declared turns database)
      → scripts_run declared turns database ≡ Some runs
      → HoldsValues P runs.database × AllByRecursion (AllByRecursion (AnswersValues P)) runs.answers

  -- Each grounding of such a run has such values.
  abbrev pub ReadViewsKeep : Type 0
  ReadViewsKeep =
      (declared : List Create) (turns : List Turn) (database : Database) (read_view : ReadView)
      → CanKeep declared turns
      → HoldsValues P database
      → AreGrounded declared (scripts_read_views declared turns database)
      → Contains (scripts_read_views declared turns database) read_view
      → AllByRecursion P read_view.valuation
