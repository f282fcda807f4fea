-- Tables and host variables whose values can be told.
use Rattle.std.specs.Prelude.{◌≡◌, ◌≤◌, true, false, Contains, List, Some, map}
use Rattle.std.specs.List.{AllByRecursion}
use Rattle.ent_lists.specs.Sets as set
use Rattle.ent_value.specs.Value.{kinds_of}
use Rattle.ent_value.specs.declared.limits.TheConstants.{MOST_ROWS}
use Rattle.ent_value.specs.declared.value.Value.{Value}
use Rattle.ent_tree.specs.declared.declaration.Create.{Create}
use Rattle.ent_tree.specs.declared.script.Statement.{Statement as TreeStatement}
use Rattle.ent_semantics.specs.Database.{Database, Environment, Name}
use Rattle.ent_semantics.specs.Entangled.{Valuation}
use Rattle.ent_semantics.specs.declared.operand.Known.{Known}
use Rattle.ent_semantics.specs.declared.statement.Statement.{Statement}
use Rattle.ent_form.specs.Kinds.{Bound}
use Rattle.ent_form.specs.TableKinds.{AnswersInKind, HasKinds}
use Rattle.ent_form.specs.Tables.{Answers}
use Rattle.ent_history.specs.Parts.{IsRow, IsValue}
use Rattle.ent_history.specs.Formed.{is_declared}

-- declared tables hold rows of their columns' kinds whose values can be told, no more than a table may hold; there is
-- nothing under other names
pub record HoldsRowsOf (declared : List Create) (database : Database) : Type 0 where
  pub rows : (create : Create) → Contains declared create → (row : List Value)
      → set.contains (database create.name.name) row ≡ true
      → IsRow row × (kinds_of row ≡ map (λ column. column.kind) create.columns)
  pub few : (create : Create) → Contains declared create → set.len (database create.name.name) ≤ MOST_ROWS
  pub others : (name : Name) → is_declared declared name ≡ false → database name ≡ set.empty

-- host variables have values that can be told, of the kinds that they are bound in
pub record HoldsValuesOf (bound : Bound) (environment : Environment) : Type 0 where
  pub kinds : HasKinds bound environment
  pub values : (name : Name) (value : Value) → environment name ≡ Some value → IsValue value

-- A valuation answers a statement: an entangled one by a value that can be told for each written variable, of its kind;
-- others by nothing that matters.
pub record CanAnswer (statement : TreeStatement) (form : Statement Known) (valuation : Valuation) : Type 0 where
  pub many : Answers statement valuation
  pub kinds : AnswersInKind form valuation
  pub values : AllByRecursion IsValue valuation
