-- What names, operands, expressions and tests are worth hangs on no place.
use Rattle.std.proofs.Common.{◌≡◌, Bool, cond, ◌&&◌, List, [], ◌∷◌, ◌++◌, map, refl, ap, ◌∙◌, Option, Some, None}
use Rattle.std.proofs.Common.{◌+ℤ◌, ◌-ℤ◌}
use Rattle.std.specs.Option.{option_map}
use Rattle.ent_value.specs.Value.{value_cmp}
use Rattle.ent_value.specs.declared.value.Value.{Value}
use Rattle.ent_tree.specs.Places.{unplaced_identifier, unplaced_specification, unplaced_column, unplaced_operand}
use Rattle.ent_tree.specs.Places.{unplaced_expression, unplaced_test, unplaced_source}
use Rattle.ent_tree.specs.declared.declaration.Create.{Create}
use Rattle.ent_tree.specs.declared.operand.ColumnReference.{ColumnReference}
use Rattle.ent_tree.specs.declared.operand.Expression.{Expression}
use Rattle.ent_tree.specs.declared.operand.Expression.TheVariants.{Single, Sum, Difference}
use Rattle.ent_tree.specs.declared.operand.Identifier.{Identifier}
use Rattle.ent_tree.specs.declared.operand.Operand.{Operand}
use Rattle.ent_tree.specs.declared.operand.Operand.TheVariants as operands
use Rattle.ent_tree.specs.declared.operand.Test.{Test}
use Rattle.ent_tree.specs.declared.operand.ValueSpecification.{ValueSpecification}
use Rattle.ent_tree.specs.declared.operand.ValueSpecification.TheVariants as specifications
use Rattle.ent_tree.specs.declared.select.Source.{Source}
use Rattle.ent_semantics.specs.Database.{Name, Environment, same_name, columns_of}
use Rattle.ent_semantics.specs.Selection.{compares, holds, meets}
use Rattle.ent_semantics.specs.Term.{SourceColumn, Worth, source_name, table_columns, source_columns, qualifies}
use Rattle.ent_semantics.specs.Term.{refers_to}
use Rattle.ent_semantics.specs.Term.{column_value, known_value, operand_value, number_of, in_64_bits, expression_value}
use Rattle.ent_program_laws.specs.Unplaced.{unplaced_create, unplaced_declared}
use Rattle.ent_program_laws.proofs.Through.{map_through, all_through}

-- ---- the columns of tables and sources

pub columns_same : (declared : List Create) (table : Name)
    → columns_of (map unplaced_create declared) table ≡ columns_of declared table
columns_same [] table = refl
columns_same (create ∷ more) table =
    let here = map_through unplaced_declared (λ column. column.name.name) (λ column. column.name.name) (λ column. refl)
    create.columns in
    let rest = columns_same more table in
    λ i. cond (same_name create.name.name table) (here i) (rest i)

pub table_columns_same : (declared : List Create) (table name : Name)
    → table_columns (map unplaced_create declared) table name ≡ table_columns declared table name
table_columns_same declared table name = rw (columns_same declared table)

name_or_alias : (table : Identifier) (alias : Option Identifier)
    → source_name (unplaced_source (record { table = table; alias = alias }))
    ≡ source_name (record { table = table; alias = alias })
name_or_alias table None = refl
name_or_alias table (Some alias) = refl

pub source_name_same : (source : Source) → source_name (unplaced_source source) ≡ source_name source
source_name_same source = name_or_alias source.table source.alias

pub source_columns_same : (declared : List Create) (sources : List Source)
    → source_columns (map unplaced_create declared) (map unplaced_source sources) ≡ source_columns declared sources
source_columns_same declared [] = refl
source_columns_same declared (source ∷ more) =
    let here = ap (λ (name : Name). table_columns (map unplaced_create declared) source.table.name name)
    (source_name_same source)
    ∙ table_columns_same declared source.table.name (source_name source) in
    let rest = source_columns_same declared more in
    λ i. here i ++ rest i

-- ---- operands

pub known_same : (environment : Environment) (value : ValueSpecification)
    → known_value environment (unplaced_specification value) ≡ known_value environment value
known_same environment (specifications.Literal literal) = refl
known_same environment (specifications.HostVariable variable) = refl

qualifier_same : (qualifier : Option Identifier) (source : Name)
    → qualifies (option_map unplaced_identifier qualifier) source ≡ qualifies qualifier source
qualifier_same None source = refl
qualifier_same (Some qualifier) source = refl

pub reference_same : (reference : ColumnReference) (column : SourceColumn)
    → refers_to (unplaced_column reference) column ≡ refers_to reference column
reference_same reference column =
    ap (λ (b : Bool). same_name reference.column.name column.column && b)
    (qualifier_same reference.qualifier column.source)

column_same : (columns : List SourceColumn) (row : List Value) (reference : ColumnReference)
    → column_value columns row (unplaced_column reference) ≡ column_value columns row reference
column_same [] row reference = refl
column_same (column ∷ columns) [] reference = refl
column_same (column ∷ columns) (value ∷ values) reference =
    let here = reference_same reference column in
    let rest = column_same columns values reference in
    λ i. cond (here i) value (rest i)

pub operand_same : (environment : Environment) (columns : List SourceColumn) (row : List Value) (operand : Operand)
    → operand_value environment columns row (unplaced_operand operand) ≡ operand_value environment columns row operand
operand_same environment columns row (operands.Value value) = known_same environment value
operand_same environment columns row (operands.Column reference) = column_same columns row reference

-- ---- expressions and tests

module _ {A : Type 0} (unplaced : A → A) where
  pub expression_same : (f g : A → Value) → ((term : A) → f (unplaced term) ≡ g term) → (expression : Expression A)
      → expression_value f (unplaced_expression unplaced expression) ≡ expression_value g expression
  expression_same f g same (Single term) = ap (λ (value : Value). Some value) (same term)
  expression_same f g same (Sum left right) =
      λ i. in_64_bits (number_of (same left i) +ℤ number_of (same right i))
  expression_same f g same (Difference left right) =
      λ i. in_64_bits (number_of (same left i) -ℤ number_of (same right i))

  pub test_same : (f g : A → Value) → ((term : A) → f (unplaced term) ≡ g term) → (test : Test A)
      → holds f (unplaced_test unplaced test) ≡ holds g test
  test_same f g same test = λ i. compares test.comparison (value_cmp (same test.left i) (same test.right i))

  pub meets_same : (f g : Worth A) (row : List Value) → ((term : A) → f row (unplaced term) ≡ g row term)
      → (tests : List (Test A)) → meets f (map (unplaced_test unplaced) tests) row ≡ meets g tests row
  meets_same f g row same tests =
      all_through (unplaced_test unplaced) (holds (f row)) (holds (g row)) (test_same (f row) (g row) same) tests
