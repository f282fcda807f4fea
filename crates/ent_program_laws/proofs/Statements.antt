-- What a statement means, and which tables it uses, hangs on no place.
use Rattle.std.proofs.Common.{◌≡◌, cond, List, [], ◌∷◌, ◌++◌, map, refl, ap, ◌∙◌, Option}
use Rattle.ent_value.specs.declared.value.Value.{Value}
use Rattle.ent_tree.specs.Places.{unplaced_specification, unplaced_operand, unplaced_source, unplaced_tests}
use Rattle.ent_tree.specs.Places.{unplaced_select, unplaced_condition, unplaced_assignment, unplaced_statement}
use Rattle.ent_tree.specs.declared.declaration.Create.{Create}
use Rattle.ent_tree.specs.declared.entangled.Condition.{Condition}
use Rattle.ent_tree.specs.declared.entangled.Condition.TheVariants as conditions
use Rattle.ent_tree.specs.declared.operand.Operand.{Operand}
use Rattle.ent_tree.specs.declared.operand.Test.{Test}
use Rattle.ent_tree.specs.declared.script.Statement.{Statement}
use Rattle.ent_tree.specs.declared.script.Statement.TheVariants as statements
use Rattle.ent_tree.specs.declared.select.Select.{Select}
use Rattle.ent_tree.specs.declared.statement.Assignment.{Assignment}
use Rattle.ent_semantics.specs.Change.{all_there, assigned_value, assigned_values, image}
use Rattle.ent_semantics.specs.Database.{Name, Rows, Database, Environment, same_name, table_named, is_among}
use Rattle.ent_semantics.specs.Effect.{insertion, deletion, replacement, setting, shown, heads_given}
use Rattle.ent_semantics.specs.Entangled.{Valuation}
use Rattle.ent_semantics.specs.Selection.{meets}
use Rattle.ent_semantics.specs.Statement.{table_worth, statement_meaning}
use Rattle.ent_semantics.specs.Term.{SourceColumn, Worth, table_columns, operand_value, known_value}
use Rattle.ent_semantics.specs.Uses.{select_tables, condition_tables, shared_tables, exclusive_tables, uses, changes}
use Rattle.ent_program_laws.specs.Unplaced.{unplaced_create}
use Rattle.ent_program_laws.proofs.Through.{map_through, flat_through}
use Rattle.ent_program_laws.proofs.Terms.{table_columns_same, known_same, operand_same, expression_same, meets_same}
use Rattle.ent_program_laws.proofs.Selects.{select_same}
use Rattle.ent_program_laws.proofs.Entangled.{heads_same, bound_values_same}

-- ---- assignments

module _ (f g : Operand → Value) (same : (operand : Operand) → f (unplaced_operand operand) ≡ g operand) where
  assigned_value_same : (assignments : List Assignment) (column : SourceColumn) (value : Value)
      → assigned_value f (map unplaced_assignment assignments) column value
      ≡ assigned_value g assignments column value
  assigned_value_same [] column value = refl
  assigned_value_same (assignment ∷ more) column value =
      let here = expression_same unplaced_operand f g same assignment.expression in
      let rest = assigned_value_same more column value in
      λ i. cond (same_name assignment.column.name column.column) (here i) (rest i)

  assigned_values_same : (assignments : List Assignment) (columns : List SourceColumn) (row : List Value)
      → assigned_values f (map unplaced_assignment assignments) columns row
      ≡ assigned_values g assignments columns row
  assigned_values_same assignments [] row = refl
  assigned_values_same assignments (column ∷ columns) [] = refl
  assigned_values_same assignments (column ∷ columns) (value ∷ values) =
      let here = assigned_value_same assignments column value in
      let rest = assigned_values_same assignments columns values in
      λ i. here i ∷ rest i

-- ---- statements over one table

module _ (declared : List Create) (environment : Environment) (table : Name) where
  abbrev worth : Worth Operand
  worth = table_worth declared environment table

  abbrev bare_worth : Worth Operand
  bare_worth = table_worth (map unplaced_create declared) environment table

  worth_same : (row : List Value) (operand : Operand) → bare_worth row (unplaced_operand operand) ≡ worth row operand
  worth_same row operand =
      ap (λ (columns : List SourceColumn). operand_value environment columns row (unplaced_operand operand))
      (table_columns_same declared table table)
      ∙ operand_same environment (table_columns declared table table) row operand

  matches_same : (tests : List (Test Operand)) (row : List Value)
      → meets bare_worth (unplaced_tests tests) row ≡ meets worth tests row
  matches_same tests row = meets_same unplaced_operand bare_worth worth row (worth_same row) tests

  image_same : (assignments : List Assignment) (row : List Value)
      → image bare_worth (map unplaced_assignment assignments)
      (table_columns (map unplaced_create declared) table table) row
      ≡ image worth assignments (table_columns declared table table) row
  image_same assignments row =
      ap (λ (columns : List SourceColumn).
      all_there (assigned_values (bare_worth row) (map unplaced_assignment assignments) columns row))
      (table_columns_same declared table table)
      ∙ ap (λ (values : List (Option Value)). all_there values)
      (assigned_values_same (bare_worth row) (worth row) (worth_same row) assignments
      (table_columns declared table table) row)

-- ---- all statements

pub meaning_same : (declared : List Create) (statement : Statement) (valuation : Valuation) (database : Database)
    (environment : Environment)
    → statement_meaning (map unplaced_create declared) (unplaced_statement statement) valuation database environment
    ≡ statement_meaning declared statement valuation database environment
meaning_same declared (statements.Select select) valuation database environment =
    ap (λ (rows : Rows). shown rows database environment) (select_same declared environment select database)
meaning_same declared (statements.Entangled entangled) valuation database environment =
    let heads = heads_same environment entangled valuation in
    let bound = bound_values_same environment entangled valuation in
    λ i. heads_given (heads i) (bound i) database environment
meaning_same declared (statements.Insert insert) valuation database environment =
    ap (λ (row : List Value). insertion (table_named insert.table.name) row database environment)
    (map_through unplaced_specification (known_value environment) (known_value environment) (known_same environment)
    insert.values)
meaning_same declared (statements.Delete delete) valuation database environment =
    let matches = matches_same declared environment delete.table.name delete.tests in
    λ i. deletion (table_named delete.table.name) (λ row. matches row i) database environment
meaning_same declared (statements.Update update) valuation database environment =
    let matches = matches_same declared environment update.table.name update.tests in
    let images = image_same declared environment update.table.name update.assignments in
    λ i. replacement (table_named update.table.name) (λ row. matches row i) (λ row. images row i) database environment
meaning_same declared (statements.Set set) valuation database environment =
    ap (λ (value : Option Value). setting set.variable.name value database environment)
    (expression_same unplaced_specification (known_value environment) (known_value environment)
    (known_same environment) set.expression)

-- ---- the tables that are used

select_tables_same : (select : Select) → select_tables (unplaced_select select) ≡ select_tables select
select_tables_same select =
    map_through unplaced_source (λ source. source.table.name) (λ source. source.table.name) (λ source. refl)
    select.sources

condition_tables_same : (condition : Condition)
    → condition_tables (unplaced_condition condition) ≡ condition_tables condition
condition_tables_same (conditions.InSelect tuple select) = select_tables_same select
condition_tables_same (conditions.InAnswer tuple relation) = refl
condition_tables_same (conditions.Test test) = refl

shared_same : (statement : Statement) → shared_tables (unplaced_statement statement) ≡ shared_tables statement
shared_same (statements.Select select) = select_tables_same select
shared_same (statements.Entangled entangled) =
    flat_through unplaced_condition condition_tables condition_tables condition_tables_same entangled.conditions
shared_same (statements.Insert insert) = refl
shared_same (statements.Delete delete) = refl
shared_same (statements.Update update) = refl
shared_same (statements.Set set) = refl

exclusive_same : (statement : Statement)
    → exclusive_tables (unplaced_statement statement) ≡ exclusive_tables statement
exclusive_same (statements.Select select) = refl
exclusive_same (statements.Entangled entangled) = refl
exclusive_same (statements.Insert insert) = refl
exclusive_same (statements.Delete delete) = refl
exclusive_same (statements.Update update) = refl
exclusive_same (statements.Set set) = refl

pub uses_same : (statement : Statement) (name : Name) → uses (unplaced_statement statement) name ≡ uses statement name
uses_same statement name =
    let shared = shared_same statement in
    let exclusive = exclusive_same statement in
    λ i. is_among (shared i ++ exclusive i) name

pub changes_same : (statement : Statement) (name : Name)
    → changes (unplaced_statement statement) name ≡ changes statement name
changes_same statement name = ap (λ (tables : List Name). is_among tables name) (exclusive_same statement)
