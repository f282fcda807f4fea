-- Kinds of operands and expressions, the tables that a statement names and changes, and statements that fit them.
use Rattle.std.specs.Prelude.{◌≡◌, ℕ, List, [], ◌∷◌, map, length, slice_get, Option, Some}
use Rattle.std.specs.List.{flat_map}
use Rattle.ent_value.specs.Value.{kind_of, kinds_of}
use Rattle.ent_value.specs.declared.value.Kind.{Kind}
use Rattle.ent_value.specs.declared.value.Kind.TheVariants as kinds
use Rattle.ent_value.specs.declared.value.Value.{Value}
use Rattle.ent_tree.specs.declared.operand.Expression.{Expression}
use Rattle.ent_tree.specs.declared.operand.Expression.TheVariants.{Single, Sum, Difference}
use Rattle.ent_semantics.specs.declared.operand.Operand.{Operand}
use Rattle.ent_semantics.specs.declared.operand.Operand.TheVariants as operands
use Rattle.ent_semantics.specs.declared.statement.Statement.{Statement}
use Rattle.ent_semantics.specs.declared.statement.Statement.TheVariants as statements

-- the kind of an operand over a row of these kinds
abbrev pub operand_kind : List Kind → Operand Value → Option Kind
operand_kind columns (operands.Known value) = Some (kind_of value)
operand_kind columns (operands.Column number) = slice_get columns number

-- the kind of a term alone; a sum and a difference are numbers
abbrev pub expression_kind : {A : Type 0} → (A → Option Kind) → Expression A → Option Kind
expression_kind kind (Single term) = kind term
expression_kind kind (Sum left right) = Some kinds.Int
expression_kind kind (Difference left right) = Some kinds.Int

-- an image has the kinds of the row that it is an image of
abbrev pub KeepsKinds : List Kind → List (Expression (Operand Value)) → Type 0
KeepsKinds columns image = map (expression_kind (operand_kind columns)) image ≡ map Some columns

-- the numbers of the tables that a statement names, in order
abbrev pub tables_named : {K : Type 0} → Statement K → List ℕ
tables_named (statements.Select select) = select.sources
tables_named (statements.Entangled entangled) = flat_map (λ atom. atom.select.sources) entangled.atoms
tables_named (statements.Insert table values) = table ∷ []
tables_named (statements.Delete table tests) = table ∷ []
tables_named (statements.Update table image tests) = table ∷ []
tables_named (statements.Set variable expression) = []

-- the number of the table that a statement changes: INSERT, DELETE and UPDATE theirs, and no other statement any
abbrev pub changed_tables : {K : Type 0} → Statement K → List ℕ
changed_tables (statements.Insert table values) = table ∷ []
changed_tables (statements.Delete table tests) = table ∷ []
changed_tables (statements.Update table image tests) = table ∷ []
changed_tables other = []

-- An ordinary statement has as many tables as it names, and the row or the image that it puts in has the kinds of the
-- table's columns.
abbrev pub Fits : List (List Kind) → Statement Value → Type 0
Fits tables (statements.Select select) = length tables ≡ length select.sources
Fits tables (statements.Entangled entangled) = ⊥
Fits tables (statements.Insert table values) = tables ≡ kinds_of values ∷ []
Fits tables (statements.Delete table tests) = (columns : List Kind) × (tables ≡ columns ∷ [])
Fits tables (statements.Update table image tests) =
    (columns : List Kind) × (tables ≡ columns ∷ []) × KeepsKinds columns image
Fits tables (statements.Set variable expression) = tables ≡ []
