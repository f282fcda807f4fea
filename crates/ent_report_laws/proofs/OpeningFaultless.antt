-- The opening that a report shows has no fault of form where the one that it is of has none.
use Rattle.std.proofs.Common.{◌≡◌, ℕ, Bool, true, false, cond, ◌==◌, List, [], ◌∷◌, ◌++◌, length, map, refl, sym}
use Rattle.std.proofs.Common.{ap, ◌∙◌, inl, inr, Option, Some, None}
use Rattle.std.specs.List.{AllByRecursion}
use Rattle.std.proofs.lemmas.List.{length-map}
use Rattle.ent_form.proofs.ResolvedSteps.{both_nothing}
use Rattle.ent_lists.specs.Elements.{In, Pairs, any_some, clash, in_either, in_flat, not_so, of_all, of_map, to_all}
use Rattle.ent_lists.specs.Sets as set
use Rattle.ent_value.specs.Value.{kind_of}
use Rattle.ent_value.specs.declared.value.Value.{Value}
use Rattle.ent_value.specs.Kinds.{same_kind}
use Rattle.ent_tree.specs.declared.declaration.Create.{Create}
use Rattle.ent_tree.specs.declared.declaration.Opening.{Opening}
use Rattle.ent_tree.specs.declared.declaration.OpeningRow.{OpeningRow}
use Rattle.ent_tree.specs.declared.operand.Literal.{Literal}
use Rattle.ent_semantics.specs.Database.{Name, opening_database, row_of, same_name, is_among}
use Rattle.ent_form.specs.Catalogue.{schemas_of, table_named}
use Rattle.ent_book.specs.Report.{names_by_bytes}
use Rattle.ent_form.specs.OpeningFault.{Check, ◌before◌, declarations_fault, first_of, literals_fault, opening_fault}
use Rattle.ent_form.specs.OpeningFault.{opening_row_fault, refused_where, repeated, row_fault, where_there}
use Rattle.ent_form.specs.declared.catalogue.ColumnSchema.{ColumnSchema}
use Rattle.ent_form.specs.declared.catalogue.TableSchema.{TableSchema}
use Rattle.ent_form.specs.declared.fault.FormFault.{FormFault}
use Rattle.ent_form.specs.declared.fault.FormFault.TheVariants.{Arity, NoTable, Repeated, WrongKind}
use Rattle.ent_history.specs.Told.{opening_row, told_opening, told_rows}
use Rattle.ent_lists.specs.Elements.{In, Pairs, in_either, in_flat, of_all, of_map, to_all}
use Rattle.ent_report_laws.proofs.Faultless.{not_among}
use Rattle.ent_report_laws.proofs.OpeningDeclared.{Rises, names_rise, other_name, shown_declared, tables_rise}
use Rattle.ent_report_laws.proofs.OpeningDeclared.{tables_told}
use Rattle.ent_report_laws.proofs.Faults.{found_alike, found_schema}
use Rattle.ent_report_laws.proofs.Rows.{row_itself, row_stands}

-- ---- checks

pub both_before : (first second : Check) → (first before second) ≡ None → (first ≡ None) × (second ≡ None)
both_before (Some fault) second e = cc (e)
both_before None second e = (refl, e)

held : (test : Bool) (fault other : FormFault) → cond test None (Some fault) ≡ None → cond test None (Some other) ≡ None
held true fault other e = refl
held false fault other e = cc (e)

none_first : {A : Type 0} (check : A → Check) (xs : List A) → ((x : A) → In x xs → check x ≡ None)
    → first_of check xs ≡ None
none_first check [] none = refl
none_first check (x ∷ xs) none =
    both_nothing (check x) (first_of check xs) (none x (inl refl)) (none_first check xs (λ y at. none y (inr at)))

each_none : {A : Type 0} (check : A → Check) (xs : List A) → first_of check xs ≡ None
    → (x : A) → In x xs → check x ≡ None
each_none check [] e x at = absurd at
each_none check (y ∷ ys) e x (inl same) = ap check same ∙ (both_before (check y) (first_of check ys) e).0
each_none check (y ∷ ys) e x (inr at) = each_none check ys (both_before (check y) (first_of check ys) e).1 x at

-- ---- declarations

abbrev pub HasColumnsOnce : Create → Type 0
HasColumnsOnce create = repeated [] (map (λ column. column.name) create.columns) ≡ None

none_repeated : (earlier : List Name) (tables : List Create) → declarations_fault earlier tables ≡ None
    → AllByRecursion HasColumnsOnce tables
none_repeated earlier [] e = tt
none_repeated earlier (create ∷ more) e =
    let inside = repeated [] (map (λ column. column.name) create.columns) in
    let rest = declarations_fault (earlier ++ create.name.name ∷ []) more in
    let behind = (both_before (refused_where (is_among earlier create.name.name) (Repeated create.name.place))
    (inside before rest) e).1 in
    let both = both_before inside rest behind in
    (both.0, none_repeated (earlier ++ create.name.name ∷ []) more both.1)

pub columns_once : (opening : Opening) → opening_fault opening ≡ None → AllByRecursion HasColumnsOnce opening.tables
columns_once opening e =
    none_repeated [] opening.tables
    (both_before (declarations_fault [] opening.tables)
    (first_of (opening_row_fault (schemas_of opening.tables)) opening.rows) e).0

-- no table has one of these names
abbrev AreNew : List Name → List Create → Type 0
AreNew earlier tables =
    (create : Create) → In create tables → (name : Name) → In name earlier → same_name name create.name.name ≡ false

none_declared_again : (earlier : List Name) (tables : List Create) → AreNew earlier tables → Pairs Rises tables
    → AllByRecursion HasColumnsOnce tables → declarations_fault earlier tables ≡ None
none_declared_again earlier [] new rise once = refl
none_declared_again earlier (create ∷ more) new rise once =
    both_nothing (refused_where (is_among earlier create.name.name) (Repeated create.name.place))
    (repeated [] (map (λ column. column.name) create.columns)
    before declarations_fault (earlier ++ create.name.name ∷ []) more)
    (ap (λ (b : Bool). refused_where b (Repeated create.name.place))
    (not_among earlier create.name.name (new create (inl refl))))
    (both_nothing (repeated [] (map (λ column. column.name) create.columns))
    (declarations_fault (earlier ++ create.name.name ∷ []) more) once.0
    (none_declared_again (earlier ++ create.name.name ∷ []) more (λ other at name there.
    elim (in_either earlier (create.name.name ∷ []) name there) [
      | inl early ↦ new other (inr at) name early
      | inr last ↦ elim last [
        | inl same ↦ ap (λ (n : Name). same_name n other.name.name) same
            ∙ other_name create.name.name other.name.name (of_all (Rises create) more other rise.0 at)
        | inr none ↦ absurd none
      ]
    ]) rise.1 once.1))

-- ---- rows

literals_again : (columns : List ColumnSchema) (literals : List Literal) → literals_fault columns literals ≡ None
    → literals_fault columns (opening_row [] (map (λ literal. literal.value) literals)).values ≡ None
literals_again [] literals e = refl
literals_again (column ∷ columns) [] e = refl
literals_again (column ∷ columns) (literal ∷ literals) e =
    let test = same_kind column.kind (kind_of literal.value) in
    let both = both_before (cond test None (Some (WrongKind literal.place))) (literals_fault columns literals) e in
    both_nothing (cond test None (Some (WrongKind 0)))
    (literals_fault columns (opening_row [] (map (λ literal. literal.value) literals)).values)
    (held test (WrongKind literal.place) (WrongKind 0) both.0) (literals_again columns literals both.1)

row_again : (table : TableSchema) (row : OpeningRow) (name : Name) → row_fault table row ≡ None
    → row_fault table (opening_row name (row_of row)) ≡ None
row_again table row name e =
    let test = length row.values == length table.columns in
    let both = both_before (cond test None (Some (Arity row.place))) (literals_fault table.columns row.values) e in
    let same : length (opening_row name (row_of row)).values ≡ length row.values =
    length-map (row_of row) (λ (value : Value). record { value = value; place = 0 })
    ∙ length-map row.values (λ (literal : Literal). literal.value) in
    both_nothing
    (cond (length (opening_row name (row_of row)).values == length table.columns) None (Some (Arity 0)))
    (literals_fault table.columns (opening_row name (row_of row)).values)
    (ap (λ (n : ℕ). cond (n == length table.columns) None (Some (Arity 0))) same
    ∙ held test (Arity row.place) (Arity 0) both.0)
    (literals_again table.columns row.values both.1)

where_by : (found : Option (ℕ × TableSchema)) (fault : FormFault) (check : TableSchema → Check)
    → where_there found fault (λ table. check table.1) ≡ where_there (found_schema found) fault check
where_by (Some table) fault check = refl
where_by None fault check = refl

-- what a table is checked for holds of one that is there
there_none : (found : Option TableSchema) (fault : FormFault) (check : TableSchema → Check)
    → where_there found fault check ≡ None → (table : TableSchema) × (found ≡ Some table) × (check table ≡ None)
there_none (Some table) fault check e = (table, refl, e)
there_none None fault check e = cc (e)

module _ (opening : Opening) (faultless : opening_fault opening ≡ None) where
  abbrev told_tables : List Create
  told_tables = (told_opening opening).tables

  row_told : (row : OpeningRow) (name : Name) → In row opening.rows → row.table.name ≡ name
      → opening_row_fault (schemas_of told_tables) (opening_row name (row_of row)) ≡ None
  row_told row name at under =
      let none = each_none (opening_row_fault (schemas_of opening.tables)) opening.rows
      (both_before (declarations_fault [] opening.tables)
      (first_of (opening_row_fault (schemas_of opening.tables)) opening.rows) faultless).1 row at in
      let found = there_none (found_schema (table_named (schemas_of opening.tables) row.table.name))
      (NoTable row.table.place) (λ table. row_fault table row)
      (sym (where_by (table_named (schemas_of opening.tables) row.table.name) (NoTable row.table.place)
      (λ table. row_fault table row)) ∙ none) in
      let same : found_schema (table_named (schemas_of told_tables) name) ≡ Some found.0 =
      found_alike told_tables opening.tables (tables_told opening) name
      ∙ ap (λ (n : Name). found_schema (table_named (schemas_of opening.tables) n)) (sym under)
      ∙ found.1 in
      where_by (table_named (schemas_of told_tables) name) (NoTable 0)
      (λ table. row_fault table (opening_row name (row_of row)))
      ∙ ap
      (λ (table : Option TableSchema). where_there table (NoTable 0)
      (λ table. row_fault table (opening_row name (row_of row))))
      same
      ∙ row_again found.0 row name found.2

  each_told : (row : OpeningRow) → In row (told_opening opening).rows
      → opening_row_fault (schemas_of told_tables) row ≡ None
  each_told row at =
      let under = in_flat (told_rows opening) (names_by_bytes opening) row at in
      let name = under.0 in
      let from = of_map (opening_row name) (set.ascending (opening_database opening name)) row under.2 in
      let stands = row_stands opening name from.0 (row_itself (opening_database opening name) from.0 from.1) in
      ap (opening_row_fault (schemas_of told_tables)) (from.2 ∙ ap (opening_row name) stands.is)
      ∙ row_told stands.one name stands.at stands.under

  pub told_faultless : opening_fault (told_opening opening) ≡ None
  told_faultless =
      both_nothing (declarations_fault [] told_tables)
      (first_of (opening_row_fault (schemas_of told_tables)) (told_opening opening).rows)
      (none_declared_again [] told_tables (λ create at name there. absurd there)
      (tables_rise opening.tables (names_by_bytes opening) (names_rise opening))
      (to_all HasColumnsOnce told_tables (λ create at.
      of_all HasColumnsOnce opening.tables create (columns_once opening faultless) (shown_declared opening create at))))
      (none_first (opening_row_fault (schemas_of told_tables)) (told_opening opening).rows each_told)
