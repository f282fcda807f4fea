-- The sources of a statement, and the columns that it sees.
use Rattle.std.specs.Prelude.{ℕ, suc, not, List, [], ◌∷◌, ◌++◌, map, Option, Some, None, Result, Ok, Err}
use Rattle.std.specs.Prelude.{if◌then◌else◌}
use Rattle.ent_value.specs.Refusal.{◌>>=◌}
use Rattle.ent_value.specs.declared.value.Kind.{Kind}
use Rattle.ent_tree.specs.declared.operand.ColumnReference.{ColumnReference}
use Rattle.ent_tree.specs.declared.operand.Identifier.{Identifier}
use Rattle.ent_tree.specs.declared.select.Source.{Source}
use Rattle.ent_semantics.specs.Database.{Name, is_among}
use Rattle.ent_semantics.specs.Term.{SourceColumn, source_name, refers_to}
use Rattle.ent_form.specs.declared.catalogue.ColumnSchema.{ColumnSchema}
use Rattle.ent_form.specs.declared.catalogue.TableSchema.{TableSchema}
use Rattle.ent_form.specs.declared.fault.FormFault.{FormFault}
use Rattle.ent_form.specs.declared.fault.FormFault.TheVariants.{NoTable, NoColumn, Ambiguous}
use Rattle.ent_form.specs.Catalogue.{table_named}
use Rattle.ent_form.specs.Steps.{there, demand}

-- a column that a statement sees, under the name that its source goes by
pub record Visible : Type 0 where
  pub column : SourceColumn
  pub kind : Kind

-- sources side by side: the numbers of their tables, the names that they go by, and their columns
pub record Scope : Type 0 where
  pub tables : List ℕ
  pub names : List Name
  pub columns : List Visible

abbrev pub no_source : Scope
no_source = record { tables = []; names = []; columns = [] }

abbrev pub visible : Name → ColumnSchema → Visible
visible source column = record { column = record { source = source; column = column.name }; kind = column.kind }

-- one source more: the name that it goes by, and its table by number
abbrev pub with_source : Scope → Name → (ℕ × TableSchema) → Scope
with_source scope name table =
    record {
      tables = scope.tables ++ table.0 ∷ [];
      names = scope.names ++ name ∷ [];
      columns = scope.columns ++ map (visible name) table.1.columns;
    }

-- where the last name of a source stands
abbrev pub source_place : Source → ℕ
source_place source = alias_or source.alias source.table.place
  where
    alias_or : Option Identifier → ℕ → ℕ
    alias_or (Some alias) place = alias.place
    alias_or None place = place

-- source by source: its table is there, and its name is new
abbrev pub sources_from : List TableSchema → Scope → List Source → Result Scope FormFault
sources_from tables scope [] = Ok scope
sources_from tables scope (source ∷ more) =
    there (table_named tables source.table.name) (NoTable source.table.place) >>= λ table.
    demand (not (is_among scope.names (source_name source))) (Ambiguous (source_place source))
    (sources_from tables (with_source scope (source_name source) table) more)

abbrev pub sources_in : List TableSchema → List Source → Result Scope FormFault
sources_in tables sources = sources_from tables no_source sources

-- a statement over one table sees it under its own name
abbrev pub table_in : List TableSchema → Identifier → Result (ℕ × TableSchema) FormFault
table_in tables table = there (table_named tables table.name) (NoTable table.place)

abbrev pub table_scope : Name → (ℕ × TableSchema) → Scope
table_scope name table = with_source no_source name table

-- the columns that a reference may mean, by number and kind, numbers being counted from a number on
abbrev pub referred_from : ℕ → List Visible → ColumnReference → List (ℕ × Kind)
referred_from number [] reference = []
referred_from number (column ∷ columns) reference =
    if refers_to reference column.column
    then (number, column.kind) ∷ referred_from (suc number) columns reference
    else referred_from (suc number) columns reference

-- exactly one column is meant
abbrev pub only_one : List (ℕ × Kind) → ℕ → Result (ℕ × Kind) FormFault
only_one [] place = Err (NoColumn place)
only_one (found ∷ []) place = Ok found
only_one (found ∷ other ∷ more) place = Err (Ambiguous place)

-- a qualifier, where there is one, is the name of a source
abbrev pub qualifier_in : {A : Type 0} → List Name → Option Identifier → Result A FormFault → Result A FormFault
qualifier_in names (Some qualifier) more = demand (is_among names qualifier.name) (NoTable qualifier.place) more
qualifier_in names None more = more

-- the number and the kind of the column that is meant
abbrev pub column_in : Scope → ColumnReference → Result (ℕ × Kind) FormFault
column_in scope reference =
    qualifier_in scope.names reference.qualifier
    (only_one (referred_from 0 scope.columns reference) reference.column.place)
