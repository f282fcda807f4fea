-- The tables that an opening without a fault begins with.
use Rattle.std.proofs.Common.{◌≡◌, ℕ, suc, Bool, true, false, cond, ◌||◌, List, [], ◌∷◌, ◌++◌, length, map}
use Rattle.std.proofs.Common.{Some, None, refl, sym, ap, ◌∙◌, arith}
use Rattle.std.specs.Prelude.{if◌then◌else◌, ◌==◌}
use Rattle.std.specs.List.{AllByRecursion, filter}
use Rattle.std.proofs.lemmas.Bool.{eqb-true, or_parts}
use Rattle.std.proofs.lemmas.List.{length-map}
use Rattle.std.proofs.lemmas.List.Folds.{list_any-append}
use Rattle.ent_lists.specs.Sets as set
use Rattle.ent_value.specs.Value.{row_cmp, kind_of, kinds_of}
use Rattle.ent_value.specs.declared.value.Value.{Value}
use Rattle.ent_value.specs.Kinds.{equal_kinds}
use Rattle.ent_tree.specs.declared.declaration.Column.{Column}
use Rattle.ent_tree.specs.declared.declaration.Create.{Create}
use Rattle.ent_tree.specs.declared.declaration.Opening.{Opening}
use Rattle.ent_tree.specs.declared.declaration.OpeningRow.{OpeningRow}
use Rattle.ent_tree.specs.declared.operand.Literal.{Literal}
use Rattle.ent_semantics.specs.Database.{Name, Rows, same_name, row_of, opening_database, is_among, rows_named}
use Rattle.ent_semantics.specs.Form.{Tables}
use Rattle.ent_semantics.specs.Names.{equal_names, name_itself}
use Rattle.ent_semantics.proofs.EachRow.{to_ascending, each_listed}
use Rattle.ent_semantics.proofs.ItemKinds.{HaveKinds}
use Rattle.ent_form.specs.declared.catalogue.ColumnSchema.{ColumnSchema}
use Rattle.ent_form.specs.declared.catalogue.TableSchema.{TableSchema}
use Rattle.ent_form.specs.declared.fault.FormFault.TheVariants.{NoTable, Arity, WrongKind, Repeated}
use Rattle.ent_form.specs.Catalogue.{column_schema, table_schema, schemas_of, table_from, table_named}
use Rattle.ent_form.specs.OpeningFault.{◌before◌, refused_where, first_of, repeated, declarations_fault}
use Rattle.ent_form.specs.OpeningFault.{literals_fault, row_fault, opening_row_fault, opening_fault}
use Rattle.ent_form.specs.Tables.{database_of, AreWide}
use Rattle.ent_form.specs.TableKinds.{column_kinds, AreKinded}
use Rattle.ent_form.specs.Opened.{opening_tables}
use Rattle.ent_form.proofs.ResolvedSteps.{nothing_first, nothing_later, not_refused, held, found_there}

-- ---- a row without a fault

literals_of_kind : (columns : List ColumnSchema) (literals : List Literal) → length literals ≡ length columns
    → literals_fault columns literals ≡ None
    → kinds_of (map (λ literal. literal.value) literals) ≡ map (λ column. column.kind) columns
literals_of_kind [] [] l e = refl
literals_of_kind [] (literal ∷ literals) l e = absurd (omega arith)
literals_of_kind (column ∷ columns) [] l e = absurd (omega arith)
literals_of_kind (column ∷ columns) (literal ∷ literals) l e =
    let one : column.kind ≡ kind_of literal.value = equal_kinds column.kind (kind_of literal.value)
    (held _ (WrongKind literal.place) (nothing_first _ (literals_fault columns literals) e)) in
    let rest : kinds_of (map (λ literal. literal.value) literals) ≡ map (λ column. column.kind) columns =
    literals_of_kind columns literals (omega arith) (nothing_later _ (literals_fault columns literals) e) in
    λ i. sym one i ∷ rest i

row_of_kind : (schema : TableSchema) (row : OpeningRow) → row_fault schema row ≡ None
    → kinds_of (row_of row) ≡ column_kinds schema
row_of_kind schema row e =
    let literals = literals_fault schema.columns row.values in
    literals_of_kind schema.columns row.values
    (eqb-true _ _ (held (length row.values == length schema.columns) (Arity row.place) (nothing_first _ literals e)))
    (nothing_later _ literals e)

one_found : (x y : ℕ × TableSchema) → Some x ≡ Some y → x ≡ y
one_found x y e = cc

module _ (schemas : List TableSchema) (name : Name) where
  abbrev is_of : OpeningRow → Bool
  is_of row = same_name row.table.name name

  -- the rows of a table that is found
  rows_of_kind : (found : ℕ × TableSchema) → table_named schemas name ≡ Some found → (rows : List OpeningRow)
      → first_of (opening_row_fault schemas) rows ≡ None
      → AllByRecursion (HaveKinds (column_kinds found.1)) (map row_of (filter is_of rows))
  rows_of_kind found there [] e = tt
  rows_of_kind found there (row ∷ rows) e =
      let check = opening_row_fault schemas row in
      let more = first_of (opening_row_fault schemas) rows in
      let rest = rows_of_kind found there rows (nothing_later check more e) in
      elim (is_of row) as (λ b. is_of row ≡ b
      → AllByRecursion (HaveKinds (column_kinds found.1)) (map row_of (cond b (row ∷ filter is_of rows)
      (filter is_of rows)))) [
        | true ↦ λ same. (row_here found there row (nothing_first check more e) same, rest)
        | false ↦ λ _. rest
      ] refl
    where
      row_here : (found : ℕ × TableSchema) → table_named schemas name ≡ Some found → (row : OpeningRow)
          → opening_row_fault schemas row ≡ None → is_of row ≡ true → kinds_of (row_of row) ≡ column_kinds found.1
      row_here found there row e same =
          let own = found_there (table_named schemas row.table.name) (NoTable row.table.place)
          (λ (found : ℕ × TableSchema). row_fault found.1 row) e in
          let is : own.0 ≡ found = one_found own.0 found
          (sym own.1 ∙ ap (table_named schemas) (equal_names row.table.name name same) ∙ there) in
          row_of_kind own.0.1 row own.2 ∙ ap (λ (x : ℕ × TableSchema). column_kinds x.1) is

  -- no row names a table that isn't there
  no_rows : table_named schemas name ≡ None → (rows : List OpeningRow)
      → first_of (opening_row_fault schemas) rows ≡ None → filter is_of rows ≡ []
  no_rows none [] e = refl
  no_rows none (row ∷ rows) e =
      let check = opening_row_fault schemas row in
      let more = first_of (opening_row_fault schemas) rows in
      let rest = no_rows none rows (nothing_later check more e) in
      elim (is_of row) as (λ b. is_of row ≡ b → cond b (row ∷ filter is_of rows) (filter is_of rows) ≡ []) [
        | true ↦ λ same.
            let own = found_there (table_named schemas row.table.name) (NoTable row.table.place)
            (λ (found : ℕ × TableSchema). row_fault found.1 row) (nothing_first check more e) in
            let absent : table_named schemas row.table.name ≡ None =
            ap (table_named schemas) (equal_names row.table.name name same) ∙ none in
            let both : Some own.0 ≡ None = sym own.1 ∙ absent in
            cc
        | false ↦ λ _. rest
      ] refl

-- ---- declared tables are found under their names

-- a name is new, and stays so with one name less
later_names : (earlier : List Name) (name : Name) (creates : List Create)
    → AllByRecursion (λ create. is_among (earlier ++ name ∷ []) create.name.name ≡ false) creates
    → AllByRecursion (λ create. is_among earlier create.name.name ≡ false) creates
    × AllByRecursion (λ create. same_name name create.name.name ≡ false) creates
later_names earlier name [] h = (tt, tt)
later_names earlier name (create ∷ creates) h =
    let other = create.name.name in
    let apart : (is_among earlier other || (same_name name other || false)) ≡ false =
    sym (list_any-append (λ x. same_name x other) earlier (name ∷ [])) ∙ h.0 in
    let more = later_names earlier name creates h.1 in
    let differs = or_parts (is_among earlier other) _ apart in
    ((differs.0, more.0), ((or_parts (same_name name other) false differs.1).0, more.1))

names_new : (earlier : List Name) (creates : List Create) → declarations_fault earlier creates ≡ None
    → AllByRecursion (λ create. is_among earlier create.name.name ≡ false) creates
names_new earlier [] e = tt
names_new earlier (create ∷ creates) e =
    let name = create.name.name in
    let new = refused_where (is_among earlier name) (Repeated create.name.place) in
    let inside = repeated [] (map (λ column. column.name) create.columns) in
    let rest = declarations_fault (earlier ++ name ∷ []) creates in
    let behind = names_new (earlier ++ name ∷ []) creates
    (nothing_later inside rest (nothing_later new (inside before rest) e)) in (
      not_refused (is_among earlier name) (Repeated create.name.place) (nothing_first new (inside before rest) e),
      (later_names earlier name creates behind).0,
    )

-- a table is found under its own name
abbrev IsFound : ℕ → List TableSchema → Create → Type 0
IsFound first schemas create =
    (number : ℕ) × (table_from first schemas create.name.name ≡ Some (number, table_schema create))

found_later : (first : ℕ) (create : Create) (schemas : List TableSchema) (more : List Create)
    → AllByRecursion (λ other. same_name create.name.name other.name.name ≡ false) more
    → AllByRecursion (IsFound (suc first) schemas) more
    → AllByRecursion (IsFound first (table_schema create ∷ schemas)) more
found_later first create schemas [] apart h = tt
found_later first create schemas (other ∷ more) apart h = (
  (
    h.0.0,
    ap (λ b. if b then Some (first, table_schema create) else table_from (suc first) schemas other.name.name)
        apart.0 ∙ h.0.1,
  ),
  found_later first create schemas more apart.1 h.1,
)

all_found : (first : ℕ) (earlier : List Name) (creates : List Create) → declarations_fault earlier creates ≡ None
    → AllByRecursion (IsFound first (schemas_of creates)) creates
all_found first earlier [] e = tt
all_found first earlier (create ∷ creates) e =
    let name = create.name.name in
    let new = refused_where (is_among earlier name) (Repeated create.name.place) in
    let inside = repeated [] (map (λ column. column.name) create.columns) in
    let rest = declarations_fault (earlier ++ name ∷ []) creates in
    let behind : rest ≡ None = nothing_later inside rest (nothing_later new (inside before rest) e) in
    let apart = later_names earlier name creates (names_new (earlier ++ name ∷ []) creates behind) in (
      (
        first,
        ap (λ b. if b then Some (first, table_schema create) else table_from (suc first) (schemas_of creates) name)
            (name_itself name),
      ),
      found_later first create (schemas_of creates) creates apart.1
          (all_found (suc first) (earlier ++ name ∷ []) creates behind),
    )

-- ---- the tables

abbrev rows_under : Opening → Name → Rows
rows_under opening name = set.from_list {R = row_cmp} (rows_named opening name)

kinded : (opening : Opening) (creates : List Create)
    → first_of (opening_row_fault (schemas_of opening.tables)) opening.rows ≡ None
    → AllByRecursion (IsFound 0 (schemas_of opening.tables)) creates
    → AreKinded (schemas_of creates) (map (λ create. rows_under opening create.name.name) creates)
kinded opening [] e h = tt
kinded opening (create ∷ creates) e h = (
  each_listed (HaveKinds (column_kinds (table_schema create))) (rows_named opening create.name.name)
      (rows_of_kind (schemas_of opening.tables) create.name.name (h.0.0, table_schema create) h.0.1 opening.rows e),
  kinded opening creates e h.1,
)

pub opened_kinded : (opening : Opening) → opening_fault opening ≡ None
    → AreKinded (schemas_of opening.tables) (opening_tables opening)
opened_kinded opening e =
    let declared = declarations_fault [] opening.tables in
    let rows = first_of (opening_row_fault (schemas_of opening.tables)) opening.rows in
    kinded opening opening.tables (nothing_later declared rows e)
    (all_found 0 [] opening.tables (nothing_first declared rows e))

-- under a name that is declared are its rows, and none under another
there_under : (opening : Opening) (first : ℕ) (creates : List Create) (name : Name) (rows : Rows)
    → rows_under opening name ≡ rows → (table_from first (schemas_of creates) name ≡ None → rows ≡ set.empty)
    → database_of creates (map (λ create. rows_under opening create.name.name) creates) name ≡ rows
there_under opening first [] name rows is none = sym (none refl)
there_under opening first (create ∷ creates) name rows is none =
    elim (same_name create.name.name name) as (λ b. same_name create.name.name name ≡ b
    → ((if b then Some (first, table_schema create) else table_from (suc first) (schemas_of creates) name) ≡ None
    → rows ≡ set.empty)
    → (if b then rows_under opening create.name.name
    else database_of creates (map (λ create. rows_under opening create.name.name) creates) name) ≡ rows) [
      | true ↦ λ same _. ap (rows_under opening) (equal_names create.name.name name same) ∙ is
      | false ↦ λ _ none. there_under opening (suc first) creates name rows is none
    ] refl none

pub opened_under : (opening : Opening) → opening_fault opening ≡ None
    → database_of opening.tables (opening_tables opening) ≡ opening_database opening
opened_under opening e i name =
    let declared = declarations_fault [] opening.tables in
    let rows = first_of (opening_row_fault (schemas_of opening.tables)) opening.rows in
    there_under opening 0 opening.tables name (opening_database opening name) refl
    (λ none. ap (λ (rows : List OpeningRow). set.from_list {R = row_cmp} (map row_of rows))
    (no_rows (schemas_of opening.tables) name none opening.rows (nothing_later declared rows e))) i

-- an opening without a fault declares each table once
pub declared_once : (opening : Opening) → opening_fault opening ≡ None → declarations_fault [] opening.tables ≡ None
declared_once opening e =
    nothing_first (declarations_fault [] opening.tables)
    (first_of (opening_row_fault (schemas_of opening.tables)) opening.rows) e

-- ---- wide tables

pub as_many : (columns : List Column) (row : List Value)
    → kinds_of row ≡ map (λ (column : ColumnSchema). column.kind) (map column_schema columns)
    → length row ≡ length columns
as_many columns row e =
    sym (length-map row kind_of) ∙ ap length e
    ∙ length-map (map column_schema columns) (λ (column : ColumnSchema). column.kind)
    ∙ length-map columns column_schema

pub kinded_wide : (creates : List Create) (tables : Tables) → AreKinded (schemas_of creates) tables
    → AreWide creates tables
kinded_wide [] [] h = tt
kinded_wide [] (rows ∷ tables) h = absurd h
kinded_wide (create ∷ creates) [] h = absurd h
kinded_wide (create ∷ creates) (rows ∷ tables) h = (
  to_ascending (λ row. length row ≡ length create.columns) rows
      (λ row there. as_many create.columns row (h.0 row there)),
  kinded_wide creates tables h.1,
)
