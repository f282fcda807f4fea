-- The sources of a SELECT by the numbers of their tables.
use Rattle.std.proofs.Common.{◌≡◌, ℕ, suc, ◌+◌, Bool, true, false, not, List, [], ◌∷◌, ◌++◌, map, length, Some}
use Rattle.std.proofs.Common.{Ok, refl, sym, ap, ◌∙◌, subst, arith}
use Rattle.std.specs.Prelude.{slice_index_or, if◌then◌else◌}
use Rattle.std.specs.List.{AllByRecursion}
use Rattle.std.proofs.lemmas.List.{append-nil, append_assoc, map-append, length-map, length-append}
use Rattle.ent_lists.specs.Sets as set
use Rattle.ent_tree.specs.declared.declaration.Column.{Column}
use Rattle.ent_tree.specs.declared.declaration.Create.{Create}
use Rattle.ent_tree.specs.declared.select.Source.{Source}
use Rattle.ent_semantics.specs.Database.{Name, Rows, same_name, columns_of, is_among}
use Rattle.ent_semantics.specs.Form.{Tables}
use Rattle.ent_semantics.specs.Term.{SourceColumn, source_name, source_columns}
use Rattle.ent_form.specs.declared.catalogue.ColumnSchema.{ColumnSchema}
use Rattle.ent_form.specs.declared.catalogue.TableSchema.{TableSchema}
use Rattle.ent_form.specs.declared.fault.FormFault.TheVariants.{NoTable, Ambiguous}
use Rattle.ent_form.specs.Catalogue.{column_schema, table_schema, schemas_of, table_from, table_named}
use Rattle.ent_form.specs.Scope.{Visible, Scope, visible, with_source, source_place, sources_from}
use Rattle.ent_form.proofs.ResolvedSteps.{one_answer, demand_given}
use Rattle.ent_form.specs.Steps.{there}
use Rattle.ent_form.proofs.Heads.{found_of, there_of}
use Rattle.ent_form.specs.Tables.{database_of, AreWide}

-- the rows of a number
abbrev pub rows_at : Tables → ℕ → Rows
rows_at tables number = slice_index_or tables number set.empty

abbrev pub name_of : Visible → SourceColumn
name_of column = column.column

-- rows of this many values
abbrev pub OfWidth : ℕ → Rows → Type 0
OfWidth width rows = AllByRecursion (λ row. length row ≡ width) (set.ascending rows)

pub names_again : (columns : List Column)
    → map (λ (column : ColumnSchema). column.name) (map column_schema columns)
    ≡ map (λ column. column.name.name) columns
names_again [] = refl
names_again (column ∷ columns) = ap (λ xs. column.name.name ∷ xs) (names_again columns)

-- what a table that is found tells of its name
pub record Told (creates : List Create) (tables : Tables) (name : Name) (first : ℕ) (found : ℕ × TableSchema) : Type
    0 where
  pub number : ℕ
  pub counted : found.0 ≡ first + number
  pub columns : columns_of creates name ≡ map (λ column. column.name) found.1.columns
  pub rows : database_of creates tables name ≡ rows_at tables number
  pub wide : OfWidth (length found.1.columns) (rows_at tables number)

told_here : (create : Create) (more : List Create) (rows : Rows) (tables : Tables) (name : Name) (first : ℕ)
    → (found : ℕ × TableSchema) → same_name create.name.name name ≡ true
    → OfWidth (length create.columns) rows → Some (first, table_schema create) ≡ Some found
    → Told (create ∷ more) (rows ∷ tables) name first found
told_here create more rows tables name first found same wide e =
    let is : (first, table_schema create) ≡ found = some_same (first, table_schema create) found e in
    subst (λ (found : ℕ × TableSchema). Told (create ∷ more) (rows ∷ tables) name first found) is
    (record {
      number = 0;
      counted = omega arith;
      columns = ap (λ b. if b then map (λ column. column.name.name) create.columns else columns_of more name) same
          ∙ sym (names_again create.columns);
      rows = ap (λ (b : Bool). if b then rows else database_of more tables name) same;
      wide = subst (λ n. OfWidth n rows) (sym (length-map create.columns column_schema)) wide;
    })
  where
    some_same : (x y : ℕ × TableSchema) → Some x ≡ Some y → x ≡ y
    some_same x y e = cc

told_later : (create : Create) (more : List Create) (rows : Rows) (tables : Tables) (name : Name) (first : ℕ)
    → (found : ℕ × TableSchema) → same_name create.name.name name ≡ false
    → Told more tables name (suc first) found → Told (create ∷ more) (rows ∷ tables) name first found
told_later create more rows tables name first found other told =
    record {
      number = suc told.number;
      counted = let e = told.counted in omega arith;
      columns = ap (λ b. if b then map (λ column. column.name.name) create.columns else columns_of more name) other
          ∙ told.columns;
      rows = ap (λ (b : Bool). if b then rows else database_of more tables name) other ∙ told.rows;
      wide = told.wide;
    }

pub told : (creates : List Create) (tables : Tables) (name : Name) (first : ℕ) (found : ℕ × TableSchema)
    → AreWide creates tables → table_from first (schemas_of creates) name ≡ Some found
    → Told creates tables name first found
told [] [] name first found wide e = cc
told [] (rows ∷ tables) name first found wide e = absurd wide
told (create ∷ more) [] name first found wide e = absurd wide
told (create ∷ more) (rows ∷ tables) name first found wide e =
    elim (same_name create.name.name name) as (λ b. same_name create.name.name name ≡ b
    → (if b then Some (first, table_schema create) else table_from (suc first) (schemas_of more) name) ≡ Some found
    → Told (create ∷ more) (rows ∷ tables) name first found) [
      | true ↦ λ same here. told_here create more rows tables name first found same wide.0 here
      | false ↦ λ other later. told_later create more rows tables name first found other
          (told more tables name (suc first) found wide.1 later)
    ] refl e

-- widths side by side
abbrev pub total : List ℕ → ℕ
total [] = 0
total (width ∷ widths) = width + total widths

-- the sources' rows have these numbers of values
abbrev pub AllWide : List Rows → List ℕ → Type 0
AllWide [] [] = Unit {0}
AllWide [] (width ∷ widths) = ⊥
AllWide (rows ∷ more) [] = ⊥
AllWide (rows ∷ more) (width ∷ widths) = OfWidth width rows × AllWide more widths

pub names_seen : (source : Name) (columns : List ColumnSchema)
    → map name_of (map (visible source) columns)
    ≡ map (λ column. record { source = source; column = column }) (map (λ (column : ColumnSchema). column.name) columns)
names_seen source [] = refl
names_seen source (column ∷ columns) = ap (λ xs. record { source = source; column = column.name } ∷ xs)
    (names_seen source columns)

module _ (creates : List Create) (tables : Tables) (fitting : AreWide creates tables) where
  abbrev pub source_rows_of : Source → Rows
  source_rows_of source = database_of creates tables source.table.name

  -- what sources that are there tell
  pub record Seen (scope out : Scope) (sources : List Source) : Type 0 where
    pub widths : List ℕ
    pub columns : map name_of out.columns ≡ map name_of scope.columns ++ source_columns creates sources
    pub rows : map (rows_at tables) out.tables ≡ map (rows_at tables) scope.tables ++ map source_rows_of sources
    pub wide : AllWide (map source_rows_of sources) widths
    pub counted : length out.columns ≡ length scope.columns + total widths

  pub sources_seen : (sources : List Source) (scope out : Scope)
      → sources_from (schemas_of creates) scope sources ≡ Ok out → Seen scope out sources
  sources_seen [] scope out e =
      let is : scope ≡ out = one_answer scope out e in
      record {
        widths = [];
        columns = ap (λ (s : Scope). map name_of s.columns) (sym is) ∙ sym (append-nil (map name_of scope.columns));
        rows = ap (λ (s : Scope). map (rows_at tables) s.tables) (sym is)
            ∙ sym (append-nil (map (rows_at tables) scope.tables));
        wide = tt;
        counted = let same : length out.columns ≡ length scope.columns = ap (λ (s : Scope). length s.columns)
            (sym is) in omega arith;
      }
  sources_seen (source ∷ more) scope out e =
      let name = source_name source in
      let w = found_of (there (table_named (schemas_of creates) source.table.name) (NoTable source.table.place)) _
      out e in
      let found : ℕ × TableSchema = w.0 in
      let kept = demand_given (not (is_among scope.names name)) (Ambiguous (source_place source)) _ out w.2 in
      let here = told creates tables source.table.name 0 found fitting
      (there_of (table_named (schemas_of creates) source.table.name) (NoTable source.table.place) found w.1) in
      let rest = sources_seen more (with_source scope name found) out kept.1 in
      let seen : List Visible = map (visible name) found.1.columns in
      let number : found.0 ≡ here.number = let c = here.counted in omega arith in
      record {
        widths = length found.1.columns ∷ rest.widths;
        columns =
            rest.columns
            ∙ ap (λ xs. xs ++ source_columns creates more) (map-append name_of scope.columns seen)
            ∙ append_assoc (map name_of scope.columns) (map name_of seen) (source_columns creates more)
            ∙ ap (λ xs. map name_of scope.columns ++ (xs ++ source_columns creates more))
            (names_seen name found.1.columns ∙ ap (map (λ column. record { source = name; column = column }))
            (sym here.columns));
        rows =
            rest.rows
            ∙ ap (λ xs. xs ++ map source_rows_of more) (map-append (rows_at tables) scope.tables (found.0 ∷ []))
            ∙ append_assoc (map (rows_at tables) scope.tables) (rows_at tables found.0 ∷ []) (map source_rows_of more)
            ∙ ap (λ (r : Rows). map (rows_at tables) scope.tables ++ r ∷ map source_rows_of more)
            (ap (rows_at tables) number ∙ sym here.rows);
        wide = (subst (λ (r : Rows). OfWidth (length found.1.columns) r) (sym here.rows) here.wide, rest.wide);
        counted =
            let t = rest.counted in
            let a = length-append scope.columns seen in
            let b = length-map found.1.columns (visible name) in
            omega arith;
      }
