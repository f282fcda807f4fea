-- What values, operands, terms and expressions of statements are worth.
use Rattle.std.specs.Prelude.{ℤ, pos, negsuc, ◌+ℤ◌, ◌-ℤ◌, ℕ, Bool, true, ◌&&◌, List, [], ◌∷◌, map, Option, Some, None}
use Rattle.std.specs.Prelude.{nat_lt, unwrap_or, if◌then◌else◌}
use Rattle.std.specs.List.{flat_map}
use Rattle.ent_value.specs.declared.value.Value.{Value}
use Rattle.ent_value.specs.declared.value.Value.TheVariants.{Int, Text}
use Rattle.ent_tree.specs.declared.declaration.Create.{Create}
use Rattle.ent_tree.specs.declared.operand.ColumnReference.{ColumnReference}
use Rattle.ent_tree.specs.declared.operand.Expression.{Expression}
use Rattle.ent_tree.specs.declared.operand.Expression.TheVariants.{Single, Sum, Difference}
use Rattle.ent_tree.specs.declared.operand.Identifier.{Identifier}
use Rattle.ent_tree.specs.declared.operand.Operand.{Operand}
use Rattle.ent_tree.specs.declared.operand.Operand.TheVariants as operands
use Rattle.ent_tree.specs.declared.operand.ValueSpecification.{ValueSpecification}
use Rattle.ent_tree.specs.declared.operand.ValueSpecification.TheVariants as specifications
use Rattle.ent_tree.specs.declared.select.Source.{Source}
use Rattle.ent_semantics.specs.Database.{Name, Environment, same_name, columns_of}

-- what an operand is worth over a row
abbrev pub Worth : Type 0 → Type 0
Worth A = List Value → A → Value

-- A name that is nowhere stands for 0, so that each operand has a value. Which statements are let through isn't said
-- here: a statement with such a name has a fault of form.
abbrev pub no_value : Value
no_value = Int (pos 0)

-- a column, and the name that its source goes by
pub record SourceColumn : Type 0 where
  pub source : Name
  pub column : Name

-- the name that a source goes by: its alias, else that of its table
abbrev pub source_name : Source → Name
source_name source = alias_or source.alias source.table.name
  where
    alias_or : Option Identifier → Name → Name
    alias_or (Some alias) name = alias.name
    alias_or None name = name

-- the columns of a table under the name that it goes by
abbrev pub table_columns : List Create → Name → Name → List SourceColumn
table_columns declared table name =
    map (λ column. record { source = name; column = column }) (columns_of declared table)

-- the columns of the sources, side by side
abbrev pub source_columns : List Create → List Source → List SourceColumn
source_columns declared sources =
    flat_map (λ source. table_columns declared source.table.name (source_name source)) sources

-- a qualifier, where there is one, is the name that the source goes by
abbrev pub qualifies : Option Identifier → Name → Bool
qualifies (Some qualifier) source = same_name qualifier.name source
qualifies None source = true

abbrev pub refers_to : ColumnReference → SourceColumn → Bool
refers_to reference column =
    same_name reference.column.name column.column && qualifies reference.qualifier column.source

-- the value of a row under the column that is referred to
abbrev pub column_value : List SourceColumn → List Value → ColumnReference → Value
column_value [] row reference = no_value
column_value (column ∷ columns) [] reference = no_value
column_value (column ∷ columns) (value ∷ values) reference =
    if refers_to reference column then value else column_value columns values reference

-- the value that is written, or that a host variable has
abbrev pub known_value : Environment → ValueSpecification → Value
known_value environment (specifications.Literal literal) = literal.value
known_value environment (specifications.HostVariable variable) = unwrap_or (environment variable.name) no_value

abbrev pub operand_value : Environment → List SourceColumn → Worth Operand
operand_value environment columns row (operands.Value value) = known_value environment value
operand_value environment columns row (operands.Column reference) = column_value columns row reference

-- the number that a value is; a text, which is of the wrong kind for a sum or a difference, counts as 0
abbrev pub number_of : Value → ℤ
number_of (Int number) = number
number_of (Text text) = pos 0

-- as many numbers as there are from 0 on within 64 bits with a sign, and as many below 0
abbrev pub half_of_64_bits : ℕ
half_of_64_bits = 9223372036854775808

-- within 64 bits with a sign: negsuc n is the number below -n
abbrev pub is_64_bits : ℤ → Bool
is_64_bits (pos n) = nat_lt n half_of_64_bits
is_64_bits (negsuc n) = nat_lt n half_of_64_bits

-- a number within 64 bits, else nothing
abbrev pub in_64_bits : ℤ → Option Value
in_64_bits number = if is_64_bits number then Some (Int number) else None

-- what an expression is worth where each term has this value; nothing where a sum or a difference is beyond 64 bits
abbrev pub expression_value : {A : Type 0} → (A → Value) → Expression A → Option Value
expression_value value (Single term) = Some (value term)
expression_value value (Sum left right) = in_64_bits (number_of (value left) +ℤ number_of (value right))
expression_value value (Difference left right) = in_64_bits (number_of (value left) -ℤ number_of (value right))
