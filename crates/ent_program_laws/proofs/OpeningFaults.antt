-- The first fault of an opening is the same, places aside.
use Rattle.std.proofs.Common.{◌≡◌, ℕ, Bool, true, false, cond, ◌==◌, List, [], ◌∷◌, ◌++◌, length, map, refl, ap, ◌∙◌}
use Rattle.std.proofs.Common.{Option, Some, None}
use Rattle.std.specs.Option.{option_map}
use Rattle.std.proofs.lemmas.List.{length-map}
use Rattle.ent_value.specs.Value.{kind_of}
use Rattle.ent_value.specs.Kinds.{same_kind}
use Rattle.ent_tree.specs.Places.{unplaced_identifier, unplaced_literal}
use Rattle.ent_tree.specs.declared.declaration.Column.{Column}
use Rattle.ent_tree.specs.declared.declaration.Create.{Create}
use Rattle.ent_tree.specs.declared.declaration.Opening.{Opening}
use Rattle.ent_tree.specs.declared.declaration.OpeningRow.{OpeningRow}
use Rattle.ent_tree.specs.declared.operand.Identifier.{Identifier}
use Rattle.ent_tree.specs.declared.operand.Literal.{Literal}
use Rattle.ent_semantics.specs.Database.{Name, is_among}
use Rattle.ent_form.specs.Catalogue.{schemas_of, table_named}
use Rattle.ent_form.specs.OpeningFault.{Check, ◌before◌, refused_where, first_of, repeated, declarations_fault}
use Rattle.ent_form.specs.OpeningFault.{where_there, literals_fault, row_fault, opening_row_fault, opening_fault}
use Rattle.ent_form.specs.declared.catalogue.ColumnSchema.{ColumnSchema}
use Rattle.ent_form.specs.declared.catalogue.TableSchema.{TableSchema}
use Rattle.ent_form.specs.declared.fault.FormFault.{FormFault}
use Rattle.ent_form.specs.declared.fault.FormFault.TheVariants.{NoTable, Arity, WrongKind, Repeated}
use Rattle.ent_program_laws.specs.Faults.{unplaced_fault}
use Rattle.ent_program_laws.specs.Unplaced.{unplaced_create, unplaced_declared, unplaced_opening, unplaced_row}
use Rattle.ent_program_laws.proofs.FaultLists.{schemas_same}

-- the first fault is the second, places aside
abbrev IsBare : Check → Check → Type 0
IsBare bare fault = bare ≡ option_map unplaced_fault fault

before_mapped : (first later : Check)
    → IsBare ((option_map unplaced_fault first) before (option_map unplaced_fault later)) (first before later)
before_mapped (Some fault) later = refl
before_mapped None later = refl

before_bare : (first later bare_first bare_later : Check) → IsBare bare_first first → IsBare bare_later later
    → IsBare (bare_first before bare_later) (first before later)
before_bare first later bare_first bare_later here there =
    (λ i. (here i) before (there i)) ∙ before_mapped first later

refused_bare : (test : Bool) (fault : FormFault)
    → IsBare (refused_where test (unplaced_fault fault)) (refused_where test fault)
refused_bare true fault = refl
refused_bare false fault = refl

unless_bare : (test : Bool) (fault : FormFault)
    → IsBare (cond test None (Some (unplaced_fault fault))) (cond test None (Some fault))
unless_bare true fault = refl
unless_bare false fault = refl

-- ---- declarations

repeated_bare : (earlier : List Name) (identifiers : List Identifier)
    → IsBare (repeated earlier (map unplaced_identifier identifiers)) (repeated earlier identifiers)
repeated_bare earlier [] = refl
repeated_bare earlier (identifier ∷ more) =
    before_bare (refused_where (is_among earlier identifier.name) (Repeated identifier.place))
    (repeated (earlier ++ identifier.name ∷ []) more)
    (refused_where (is_among earlier identifier.name) (Repeated 0))
    (repeated (earlier ++ identifier.name ∷ []) (map unplaced_identifier more))
    (refused_bare (is_among earlier identifier.name) (Repeated identifier.place))
    (repeated_bare (earlier ++ identifier.name ∷ []) more)

names_are : (columns : List Column) → map (λ (column : Column). column.name) (map unplaced_declared columns)
    ≡ map unplaced_identifier (map (λ (column : Column). column.name) columns)
names_are [] = refl
names_are (column ∷ more) =
    ap (λ (names : List Identifier). unplaced_identifier column.name ∷ names) (names_are more)

declarations_bare : (earlier : List Name) (creates : List Create)
    → IsBare (declarations_fault earlier (map unplaced_create creates)) (declarations_fault earlier creates)
declarations_bare earlier [] = refl
declarations_bare earlier (create ∷ more) =
    before_bare taken (columns before later) (refused_where (is_among earlier create.name.name) (Repeated 0))
    (bare_columns before bare_later)
    (refused_bare (is_among earlier create.name.name) (Repeated create.name.place))
    (before_bare columns later bare_columns bare_later
    (ap (λ (names : List Identifier). repeated [] names) (names_are create.columns)
    ∙ repeated_bare [] (map (λ (column : Column). column.name) create.columns))
    (declarations_bare (earlier ++ create.name.name ∷ []) more))
  where
    taken : Check
    taken = refused_where (is_among earlier create.name.name) (Repeated create.name.place)

    columns : Check
    columns = repeated [] (map (λ (column : Column). column.name) create.columns)

    later : Check
    later = declarations_fault (earlier ++ create.name.name ∷ []) more

    bare_columns : Check
    bare_columns = repeated [] (map (λ (column : Column). column.name) (map unplaced_declared create.columns))

    bare_later : Check
    bare_later = declarations_fault (earlier ++ create.name.name ∷ []) (map unplaced_create more)

-- ---- rows

literals_bare : (columns : List ColumnSchema) (literals : List Literal)
    → IsBare (literals_fault columns (map unplaced_literal literals)) (literals_fault columns literals)
literals_bare [] literals = refl
literals_bare (column ∷ columns) [] = refl
literals_bare (column ∷ columns) (literal ∷ literals) =
    before_bare (cond (same_kind column.kind (kind_of literal.value)) None (Some (WrongKind literal.place)))
    (literals_fault columns literals)
    (cond (same_kind column.kind (kind_of literal.value)) None (Some (WrongKind 0)))
    (literals_fault columns (map unplaced_literal literals))
    (unless_bare (same_kind column.kind (kind_of literal.value)) (WrongKind literal.place))
    (literals_bare columns literals)

row_bare : (table : TableSchema) (row : OpeningRow) → IsBare (row_fault table (unplaced_row row)) (row_fault table row)
row_bare table row =
    before_bare (cond (length row.values == length table.columns) None (Some (Arity row.place)))
    (literals_fault table.columns row.values)
    (cond (length (map unplaced_literal row.values) == length table.columns) None (Some (Arity 0)))
    (literals_fault table.columns (map unplaced_literal row.values))
    (ap (λ (count : ℕ). cond (count == length table.columns) None (Some (Arity 0)))
    (length-map row.values unplaced_literal)
    ∙ unless_bare (length row.values == length table.columns) (Arity row.place))
    (literals_bare table.columns row.values)

there_bare : {A : Type 0} (found : Option A) (fault : FormFault) (f g : A → Check) → ((x : A) → IsBare (f x) (g x))
    → IsBare (where_there found (unplaced_fault fault) f) (where_there found fault g)
there_bare (Some x) fault f g bare = bare x
there_bare None fault f g bare = refl

opening_row_bare : (tables : List TableSchema) (row : OpeningRow)
    → IsBare (opening_row_fault tables (unplaced_row row)) (opening_row_fault tables row)
opening_row_bare tables row =
    there_bare (table_named tables row.table.name) (NoTable row.table.place)
    (λ found. row_fault found.1 (unplaced_row row)) (λ found. row_fault found.1 row) (λ found. row_bare found.1 row)

rows_bare : (tables : List TableSchema) (rows : List OpeningRow)
    → IsBare (first_of (opening_row_fault tables) (map unplaced_row rows)) (first_of (opening_row_fault tables) rows)
rows_bare tables [] = refl
rows_bare tables (row ∷ more) =
    before_bare (opening_row_fault tables row) (first_of (opening_row_fault tables) more)
    (opening_row_fault tables (unplaced_row row)) (first_of (opening_row_fault tables) (map unplaced_row more))
    (opening_row_bare tables row) (rows_bare tables more)

-- ---- the whole

pub opening_bare : (opening : Opening)
    → opening_fault (unplaced_opening opening) ≡ option_map unplaced_fault (opening_fault opening)
opening_bare opening =
    before_bare (declarations_fault [] opening.tables)
    (first_of (opening_row_fault (schemas_of opening.tables)) opening.rows)
    (declarations_fault [] (map unplaced_create opening.tables))
    (first_of (opening_row_fault (schemas_of (map unplaced_create opening.tables))) (map unplaced_row opening.rows))
    (declarations_bare [] opening.tables)
    (ap (λ (tables : List TableSchema). first_of (opening_row_fault tables) (map unplaced_row opening.rows))
    (schemas_same opening.tables)
    ∙ rows_bare (schemas_of opening.tables) opening.rows)

pub faultless_opening : (opening : Opening) → opening_fault opening ≡ None
    → opening_fault (unplaced_opening opening) ≡ None
faultless_opening opening none =
    opening_bare opening ∙ ap (λ (fault : Check). option_map unplaced_fault fault) none
