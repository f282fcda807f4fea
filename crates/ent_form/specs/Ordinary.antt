-- Ordinary statements resolved: the form, or the first fault. Each goes over its table or its sources first, then over
-- its WHERE from left to right, then over the rest from left to right.
use Rattle.std.specs.Prelude.{ℕ, suc, not, List, [], ◌∷◌, ◌++◌, map, length, slice_set}
use Rattle.std.specs.Prelude.{Result, Ok, ◌==◌}
use Rattle.ent_value.specs.Refusal.{◌>>=◌}
use Rattle.ent_value.specs.declared.value.Kind.{Kind}
use Rattle.ent_value.specs.Kinds.{same_kind}
use Rattle.ent_tree.specs.declared.operand.Expression.{Expression}
use Rattle.ent_tree.specs.declared.operand.Expression.TheVariants.{Single}
use Rattle.ent_tree.specs.declared.operand.Operand.{Operand as TreeOperand}
use Rattle.ent_tree.specs.declared.operand.Test.{Test}
use Rattle.ent_tree.specs.declared.operand.ValueSpecification.{ValueSpecification}
use Rattle.ent_tree.specs.declared.select.Items.{Items}
use Rattle.ent_tree.specs.declared.select.Items.TheVariants as items
use Rattle.ent_tree.specs.declared.select.Select.{Select as TreeSelect}
use Rattle.ent_tree.specs.declared.statement.Assignment.{Assignment}
use Rattle.ent_tree.specs.declared.statement.Delete.{Delete}
use Rattle.ent_tree.specs.declared.statement.Insert.{Insert}
use Rattle.ent_tree.specs.declared.statement.Set.{Set}
use Rattle.ent_tree.specs.declared.statement.Update.{Update}
use Rattle.ent_semantics.specs.Database.{Name, is_among}
use Rattle.ent_semantics.specs.declared.operand.Known.{Known}
use Rattle.ent_semantics.specs.declared.operand.Operand.{Operand}
use Rattle.ent_semantics.specs.declared.operand.Operand.TheVariants.{Column}
use Rattle.ent_semantics.specs.declared.statement.Select.{Select}
use Rattle.ent_semantics.specs.declared.statement.Statement.{Statement}
use Rattle.ent_semantics.specs.declared.statement.Statement.TheVariants as statements
use Rattle.ent_form.specs.declared.catalogue.ColumnSchema.{ColumnSchema}
use Rattle.ent_form.specs.declared.catalogue.TableSchema.{TableSchema}
use Rattle.ent_form.specs.declared.fault.FormFault.{FormFault}
use Rattle.ent_form.specs.declared.fault.FormFault.TheVariants.{NoColumn, Arity, WrongKind, Repeated}
use Rattle.ent_form.specs.Catalogue.{column_named}
use Rattle.ent_form.specs.Kinds.{Bound, with_kind}
use Rattle.ent_form.specs.Lookup.{Lookup, values_in, operand_place, operands_in, kind_in, test_in, expression_in}
use Rattle.ent_form.specs.Lookup.{expression_place}
use Rattle.ent_form.specs.Scope.{Scope, Visible, sources_in, table_in, table_scope}
use Rattle.ent_form.specs.Steps.{there, demand}

-- the tests of a WHERE from left to right, behind those before
abbrev pub tests_from : Lookup TreeOperand (Operand Known) → List (Test (Operand Known)) → List (Test TreeOperand)
    → Result (List (Test (Operand Known))) FormFault
tests_from lookup made [] = Ok made
tests_from lookup made (test ∷ more) = test_in lookup test >>= λ form. tests_from lookup (made ++ form ∷ []) more

unfoldable pub tests_in : Scope → Bound → List (Test TreeOperand) → Result (List (Test (Operand Known))) FormFault
tests_in scope bound tests = tests_from (operands_in scope bound) [] tests

-- the items of a SELECT, and the kind of each
abbrev pub Shown : Type 0
Shown = List (Operand Known) × List Kind

-- an item more, and its kind
abbrev pub with_item : Shown → (Operand Known × Kind) → Shown
with_item shown item = (shown.0 ++ item.0 ∷ [], shown.1 ++ item.1 ∷ [])

abbrev pub items_from : Lookup TreeOperand (Operand Known) → Shown → List TreeOperand → Result Shown FormFault
items_from lookup shown [] = Ok shown
items_from lookup shown (item ∷ more) = lookup.find item >>= λ found. items_from lookup (with_item shown found) more

-- every column, its number being counted from a number on
abbrev pub columns_from : ℕ → List Visible → List (Operand Known)
columns_from number [] = []
columns_from number (column ∷ columns) = Column number ∷ columns_from (suc number) columns

abbrev pub all_shown : Scope → Shown
all_shown scope = (columns_from 0 scope.columns, map (λ column. column.kind) scope.columns)

abbrev pub items_in : Scope → Bound → Items → Result Shown FormFault
items_in scope bound items.All = Ok (all_shown scope)
items_in scope bound (items.Listed listed) = items_from (operands_in scope bound) ([], []) listed

-- a SELECT, and the kinds of its items
unfoldable pub select_in : List TableSchema → Bound → TreeSelect → Result (Select Known × List Kind) FormFault
select_in tables bound select =
    sources_in tables select.sources >>= λ scope.
    tests_in scope bound select.tests >>= λ tests.
    items_in scope bound select.items >>= λ shown.
    Ok (record { sources = scope.tables; items = shown.0; tests = tests }, shown.1)

-- values and columns side by side, behind the values before: each has its column's kind
abbrev pub row_from : Bound → List Known → List ColumnSchema → List ValueSpecification → Result (List Known) FormFault
row_from bound made [] values = Ok made
row_from bound made (column ∷ columns) [] = Ok made
row_from bound made (column ∷ columns) (value ∷ values) =
    kind_in (values_in bound) column.kind value >>= λ known. row_from bound (made ++ known ∷ []) columns values

-- the table, the number of values, then each of them
unfoldable pub insert_in : List TableSchema → Bound → Insert → Result (Statement Known) FormFault
insert_in tables bound insert =
    table_in tables insert.table >>= λ table.
    demand (length insert.values == length table.1.columns) (Arity insert.place)
    (row_from bound [] table.1.columns insert.values >>= λ values. Ok (statements.Insert table.0 values))

unfoldable pub delete_in : List TableSchema → Bound → Delete → Result (Statement Known) FormFault
delete_in tables bound delete =
    table_in tables delete.table >>= λ table.
    tests_in (table_scope delete.table.name table) bound delete.tests >>= λ tests.
    Ok (statements.Delete table.0 tests)

-- The image of a row: an expression for each column.
abbrev pub Image : Type 0
Image = List (Expression (Operand Known))

-- a column that isn't assigned is its own; numbers are counted from a number on
abbrev pub own_from : ℕ → List ColumnSchema → Image
own_from number [] = []
own_from number (column ∷ columns) = Single (Column number) ∷ own_from (suc number) columns

-- the column is there, then it isn't among those before, then what is assigned to it, then the kinds of both
unfoldable pub assignment_in : Scope → Bound → List ColumnSchema → List Name → Image → Assignment
    → Result Image FormFault
assignment_in scope bound columns earlier image assignment =
    there (column_named columns assignment.column.name) (NoColumn assignment.column.place) >>= λ column.
    demand (not (is_among earlier assignment.column.name)) (Repeated assignment.column.place)
    (expression_in (operands_in scope bound) assignment.expression >>= λ expression.
    demand (same_kind column.1 expression.1) (WrongKind (expression_place operand_place assignment.expression))
    (Ok (slice_set image column.0 expression.0)))

abbrev pub assignments_from : Scope → Bound → List ColumnSchema → List Name → Image → List Assignment
    → Result Image FormFault
assignments_from scope bound columns earlier image [] = Ok image
assignments_from scope bound columns earlier image (assignment ∷ more) =
    assignment_in scope bound columns earlier image assignment >>= λ image.
    assignments_from scope bound columns (earlier ++ assignment.column.name ∷ []) image more

-- the image that the assignments make of a row of these columns
unfoldable pub image_in : Scope → Bound → List ColumnSchema → List Assignment → Result Image FormFault
image_in scope bound columns assignments = assignments_from scope bound columns [] (own_from 0 columns) assignments

unfoldable pub update_in : List TableSchema → Bound → Update → Result (Statement Known) FormFault
update_in tables bound update =
    table_in tables update.table >>= λ table.
    let scope = table_scope update.table.name table in
    tests_in scope bound update.tests >>= λ tests.
    image_in scope bound table.1.columns update.assignments >>= λ image.
    Ok (statements.Update table.0 image tests)

-- a SET, and what is bound after it
unfoldable pub set_in : Bound → Set → Result (Statement Known × Bound) FormFault
set_in bound set =
    expression_in (values_in bound) set.expression >>= λ found.
    Ok (statements.Set set.variable.name found.0, with_kind bound set.variable.name found.1)
