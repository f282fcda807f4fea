-- The faults of declarations and of opening rows, and which comes first.
use Rattle.std.specs.Prelude.{Bool, List, [], ◌∷◌, ◌++◌, map, length, Option, Some, None, Result, Ok, Err}
use Rattle.std.specs.Prelude.{if◌then◌else◌, ◌==◌}
use Rattle.ent_value.specs.Value.{kind_of}
use Rattle.ent_value.specs.Kinds.{same_kind}
use Rattle.ent_tree.specs.declared.declaration.Create.{Create}
use Rattle.ent_tree.specs.declared.declaration.Opening.{Opening}
use Rattle.ent_tree.specs.declared.declaration.OpeningRow.{OpeningRow}
use Rattle.ent_tree.specs.declared.operand.Identifier.{Identifier}
use Rattle.ent_tree.specs.declared.operand.Literal.{Literal}
use Rattle.ent_semantics.specs.Database.{Name, is_among}
use Rattle.ent_form.specs.declared.catalogue.ColumnSchema.{ColumnSchema}
use Rattle.ent_form.specs.declared.catalogue.TableSchema.{TableSchema}
use Rattle.ent_form.specs.declared.fault.FormFault.{FormFault}
use Rattle.ent_form.specs.declared.fault.FormFault.TheVariants.{NoTable, Arity, WrongKind, Repeated}
use Rattle.ent_form.specs.Catalogue.{schemas_of, table_named}

-- a fault that may be there
abbrev pub Check : Type 0
Check = Option FormFault

-- one check before another
infixr 20 ◌before◌
abbrev pub ◌before◌ : Check → Check → Check
(Some fault) before later = Some fault
None before later = later

abbrev pub refused_where : Bool → FormFault → Check
refused_where test fault = if test then Some fault else None

-- the first fault of a list of things, from left to right
abbrev pub first_of : {A : Type 0} → (A → Check) → List A → Check
first_of check [] = None
first_of check (x ∷ xs) = check x before first_of check xs

-- the first name that stands among those before it
abbrev pub repeated : List Name → List Identifier → Check
repeated earlier [] = None
repeated earlier (identifier ∷ more) =
    refused_where (is_among earlier identifier.name) (Repeated identifier.place)
    before repeated (earlier ++ identifier.name ∷ []) more

-- declarations in order: the name of a table, then those of its columns
abbrev pub declarations_fault : List Name → List Create → Check
declarations_fault earlier [] = None
declarations_fault earlier (create ∷ more) =
    refused_where (is_among earlier create.name.name) (Repeated create.name.place)
    before repeated [] (map (λ column. column.name) create.columns)
    before declarations_fault (earlier ++ create.name.name ∷ []) more

-- goes on with what is there, or is refused
abbrev pub where_there : {A : Type 0} → Option A → FormFault → (A → Check) → Check
where_there (Some x) fault check = check x
where_there None fault check = Some fault

-- literals and columns side by side: the first literal of another kind
abbrev pub literals_fault : List ColumnSchema → List Literal → Check
literals_fault [] literals = None
literals_fault (column ∷ columns) [] = None
literals_fault (column ∷ columns) (literal ∷ literals) =
    (if same_kind column.kind (kind_of literal.value) then None else Some (WrongKind literal.place))
    before literals_fault columns literals

-- the number of literals, then their kinds
abbrev pub row_fault : TableSchema → OpeningRow → Check
row_fault table row =
    (if length row.values == length table.columns then None else Some (Arity row.place))
    before literals_fault table.columns row.values

-- the table, then the row
abbrev pub opening_row_fault : List TableSchema → OpeningRow → Check
opening_row_fault tables row =
    where_there (table_named tables row.table.name) (NoTable row.table.place) (λ found. row_fault found.1 row)

-- declarations, then opening rows
abbrev pub opening_fault : Opening → Check
opening_fault opening =
    declarations_fault [] opening.tables before first_of (opening_row_fault (schemas_of opening.tables)) opening.rows

-- an answer where there is no fault
abbrev pub unless : {A : Type 0} → Check → A → Result A FormFault
unless None answer = Ok answer
unless (Some fault) answer = Err fault
