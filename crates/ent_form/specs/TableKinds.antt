-- Tables whose rows have the kinds of their columns, and values of the kinds that are known from a script's text.
use Rattle.std.specs.Prelude.{◌≡◌, ℕ, ◌<◌, List, [], ◌∷◌, map, length, slice_index_or, Some}
use Rattle.std.specs.List.{AllByRecursion}
use Rattle.ent_value.specs.Value.{kind_of, kinds_of}
use Rattle.ent_value.specs.declared.value.Kind.{Kind}
use Rattle.ent_value.specs.declared.value.Value.{Value}
use Rattle.ent_semantics.specs.Database.{Name, Environment}
use Rattle.ent_semantics.specs.Entangled.{Valuation}
use Rattle.ent_semantics.specs.Kinds.{RowsHaveKinds}
use Rattle.ent_semantics.specs.Form.{Tables}
use Rattle.ent_semantics.specs.declared.operand.Known.{Known}
use Rattle.ent_semantics.specs.declared.statement.Statement.{Statement}
use Rattle.ent_semantics.specs.declared.statement.Statement.TheVariants as statements
use Rattle.ent_form.specs.declared.catalogue.TableSchema.{TableSchema}
use Rattle.ent_form.specs.Kinds.{Bound}

-- the kinds of a table's columns
abbrev pub column_kinds : TableSchema → List Kind
column_kinds table = map (λ column. column.kind) table.columns

-- the kinds of the columns of the table of a number
abbrev pub kinds_numbered : List TableSchema → ℕ → List Kind
kinds_numbered schemas number = slice_index_or (map column_kinds schemas) number []

-- each table is there, and its rows have the kinds of its columns
abbrev pub AreKinded : List TableSchema → Tables → Type 0
AreKinded [] [] = Unit {0}
AreKinded [] (rows ∷ tables) = ⊥
AreKinded (schema ∷ more) [] = ⊥
AreKinded (schema ∷ more) (rows ∷ tables) = RowsHaveKinds (column_kinds schema) rows × AreKinded more tables

-- tables of these numbers are declared
abbrev pub AreDeclared : List TableSchema → List ℕ → Type 0
AreDeclared schemas numbers = AllByRecursion (λ number. number < length schemas) numbers

-- a host variable has a value of this kind
abbrev pub HasKind : Environment → Name → Kind → Type 0
HasKind environment name kind = (value : Value) × (environment name ≡ Some value) × (kind_of value ≡ kind)

-- each host variable that is bound has a value of the kind that it is bound in
abbrev pub HasKinds : Bound → Environment → Type 0
HasKinds bound environment = (name : Name) (kind : Kind) → bound name ≡ Some kind → HasKind environment name kind

-- the values that answer an entangled statement have the kinds of its variables; others have no use for values
abbrev pub AnswersInKind : Statement Known → Valuation → Type 0
AnswersInKind (statements.Entangled entangled) valuation = kinds_of valuation ≡ entangled.variables
AnswersInKind (statements.Select select) valuation = Unit {0}
AnswersInKind (statements.Insert table values) valuation = Unit {0}
AnswersInKind (statements.Delete table tests) valuation = Unit {0}
AnswersInKind (statements.Update table image tests) valuation = Unit {0}
AnswersInKind (statements.Set variable expression) valuation = Unit {0}
