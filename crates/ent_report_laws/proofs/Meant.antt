-- Statements and scripts mean the same over tables of the same columns.
use Rattle.std.proofs.Common.{◌≡◌, ℕ, suc, ◌==◌, ◌&&◌, List, [], ◌∷◌, ◌++◌, length, map, refl, Option, Some, None}
use Rattle.std.specs.List.{flat_map, list_all}
use Rattle.std.specs.Option.{option_and_then, option_map}
use Rattle.ent_lists.specs.Sets as set
use Rattle.ent_value.specs.declared.value.Value.{Value}
use Rattle.ent_tree.specs.declared.declaration.Create.{Create}
use Rattle.ent_tree.specs.declared.entangled.Condition.{Condition}
use Rattle.ent_tree.specs.declared.entangled.Condition.TheVariants as conditions
use Rattle.ent_tree.specs.declared.entangled.Entangled.{Entangled}
use Rattle.ent_tree.specs.declared.entangled.Term.{Term}
use Rattle.ent_tree.specs.declared.script.Script.{Script}
use Rattle.ent_tree.specs.declared.script.Statement.{Statement}
use Rattle.ent_tree.specs.declared.script.Statement.TheVariants as statements
use Rattle.ent_tree.specs.declared.select.Select.{Select}
use Rattle.ent_tree.specs.declared.select.Source.{Source}
use Rattle.ent_semantics.specs.Change.{image}
use Rattle.ent_semantics.specs.Database.{Database, Environment, Name, columns_of, nothing_bound, table_named}
use Rattle.ent_semantics.specs.Effect.{deletion, replacement, shown}
use Rattle.ent_semantics.specs.Entangled.{Valuation, condition_holds, is_grounding, term_worth, written_variables}
use Rattle.ent_semantics.specs.Selection.{item_row, meets, select_rows, selection, source_rows}
use Rattle.ent_semantics.specs.Serial.{Operation, Turn, after, operations_of, ended, ran_first, run, script_run}
use Rattle.ent_semantics.specs.Serial.{script_read_views}
use Rattle.ent_semantics.specs.Serial.{scripts_run, scripts_read_views, seen, seen_after, seen_from, read_views}
use Rattle.ent_semantics.specs.Statement.{statement_meaning}
use Rattle.ent_semantics.specs.Term.{operand_value, source_columns, source_name, table_columns}

module _ (first second : List Create) (same : (name : Name) → columns_of first name ≡ columns_of second name) where
  -- ---- statements

  same_table : (table name : Name) → table_columns first table name ≡ table_columns second table name
  same_table table name = λ i. map (λ column. record { source = name; column = column }) (same table i)

  same_sources : (sources : List Source) → source_columns first sources ≡ source_columns second sources
  same_sources sources =
      λ i. flat_map (λ source. same_table source.table.name (source_name source) i) sources

  same_rows : (database : Database) (environment : Environment) (select : Select)
      → select_rows first database environment select ≡ select_rows second database environment select
  same_rows database environment select =
      λ i. selection (meets (operand_value environment (same_sources select.sources i)) select.tests)
      (item_row (operand_value environment (same_sources select.sources i)) select.items)
      (source_rows database select)

  pub same_meaning : (statement : Statement) (valuation : Valuation) (database : Database) (environment : Environment)
      → statement_meaning first statement valuation database environment
      ≡ statement_meaning second statement valuation database environment
  same_meaning (statements.Select select) valuation database environment =
      λ i. shown (same_rows database environment select i) database environment
  same_meaning (statements.Entangled entangled) valuation database environment = refl
  same_meaning (statements.Insert insert) valuation database environment = refl
  same_meaning (statements.Delete delete) valuation database environment =
      let columns = same_table delete.table.name delete.table.name in
      λ i. deletion (table_named delete.table.name) (meets (operand_value environment (columns i)) delete.tests)
      database environment
  same_meaning (statements.Update update) valuation database environment =
      let columns = same_table update.table.name update.table.name in
      λ i. replacement (table_named update.table.name) (meets (operand_value environment (columns i)) update.tests)
      (image (operand_value environment (columns i)) update.assignments (columns i)) database environment
  same_meaning (statements.Set set) valuation database environment = refl

  -- ---- groundings

  same_condition : (database : Database) (environment : Environment) (worth : Term → Value) (condition : Condition)
      → condition_holds first database environment worth condition
      ≡ condition_holds second database environment worth condition
  same_condition database environment worth (conditions.InSelect tuple select) =
      λ i. set.contains (same_rows database environment select i) (map worth tuple.terms)
  same_condition database environment worth (conditions.InAnswer tuple relation) = refl
  same_condition database environment worth (conditions.Test test) = refl

  pub same_grounding : (database : Database) (environment : Environment) (entangled : Entangled)
      (valuation : Valuation)
      → is_grounding first database environment entangled valuation
      ≡ is_grounding second database environment entangled valuation
  same_grounding database environment entangled valuation =
      λ i. (length valuation == length (written_variables entangled))
      && list_all
      (λ condition. same_condition database environment (term_worth environment entangled valuation) condition i)
      entangled.conditions

  -- ---- runs

  same_run : (operations : List Operation) (database : Database) (environment : Environment)
      → run first operations database environment ≡ run second operations database environment
  same_run [] database environment = refl
  same_run (operation ∷ more) database environment =
      λ i. after (same_meaning operation.statement operation.valuation database environment i)
      (λ database environment. same_run more database environment i)

  same_script_run : (script : Script) (oracle : List Valuation) (database : Database)
      → script_run first script oracle database ≡ script_run second script oracle database
  same_script_run script oracle database =
      λ i. ended script.end
      (option_and_then (λ operations. same_run operations database nothing_bound i)
      (operations_of script.statements oracle))

  pub same_runs : (turns : List Turn) (database : Database)
      → scripts_run first turns database ≡ scripts_run second turns database
  same_runs [] database = refl
  same_runs (turn ∷ more) database =
      λ i. option_and_then (λ run. option_map (ran_first run.answers) (same_runs more run.database i))
      (same_script_run turn.script turn.oracle database i)

  -- ---- what entangled statements see

  same_seen : (tx place : ℕ) (operations : List Operation) (database : Database) (environment : Environment)
      → read_views first tx place operations database environment ≡ read_views second tx place operations database
      environment
  same_seen tx place [] database environment = refl
  same_seen tx place (operation ∷ more) database environment =
      λ i. seen tx place operation database environment
      ++ seen_after (same_meaning operation.statement operation.valuation database environment i)
      (λ database environment. same_seen tx (suc place) more database environment i)

  same_script_read_views : (turn : Turn) (database : Database)
      → script_read_views first turn database ≡ script_read_views second turn database
  same_script_read_views turn database = by (operations_of turn.script.statements turn.oracle) refl
    where
      by : (operations : Option (List Operation)) → operations_of turn.script.statements turn.oracle ≡ operations
          → script_read_views first turn database ≡ script_read_views second turn database
      by (Some operations) e = rw e (same_seen turn.tx 1 operations database nothing_bound)
      by None e = rw e refl

  pub same_read_views : (turns : List Turn) (database : Database)
      → scripts_read_views first turns database ≡ scripts_read_views second turns database
  same_read_views [] database = refl
  same_read_views (turn ∷ more) database =
      λ i. same_script_read_views turn database i
      ++ seen_from (same_script_run turn.script turn.oracle database i) (λ database. same_read_views more database i)
