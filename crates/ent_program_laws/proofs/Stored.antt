-- Databases that hold rows of their columns, as tables in the order of their declaration.
use Rattle.std.proofs.Common.{◌≡◌, ◌≤◌, Bool, true, false, ◌||◌, List, [], ◌∷◌, map, length, refl, sym, ap, subst}
use Rattle.std.proofs.Common.{◌∙◌, arith, inl, inr, None}
use Rattle.std.specs.Prelude.{if◌then◌else◌}
use Rattle.std.proofs.lemmas.List.{length-map}
use Rattle.ent_lists.specs.Sets as set
use Rattle.ent_lists.specs.Laws.{contains-empty, len-empty}
use Rattle.ent_value.specs.Value.{row_cmp}
use Rattle.ent_value.specs.declared.value.Value.{Value}
use Rattle.ent_tree.specs.declared.declaration.Column.{Column}
use Rattle.ent_tree.specs.declared.declaration.Create.{Create}
use Rattle.ent_semantics.specs.Form.{Tables}
use Rattle.ent_semantics.specs.Database.{Database, Name, Rows, columns_of, same_name}
use Rattle.ent_semantics.specs.Names.{equal_names}
use Rattle.ent_form.specs.Catalogue.{schemas_of}
use Rattle.ent_form.specs.OpeningFault.{declarations_fault}
use Rattle.ent_form.specs.Tables.{database_of}
use Rattle.ent_form.specs.TableKinds.{AreKinded}
use Rattle.ent_form.proofs.NamesApart.{kinds_under, names_apart, nothing_under, schema_kinds}
use Rattle.ent_form.proofs.Opened.{as_many}
use Rattle.ent_history.specs.Parts.{IsRow}
use Rattle.ent_history.specs.Formed.{is_declared}
use Rattle.ent_lists.specs.Elements.{In, any_some, clash, contains_in, in_contains}
use Rattle.ent_program_laws.specs.Held.{HoldsRowsOf}
use Rattle.ent_program_laws.proofs.Leaving.{HoldsFew}
use Rattle.ent_program_laws.proofs.Results.{HoldsRows}

-- ---- tables under their names

-- what is declared under a name that is declared
declared_at : (creates : List Create) (name : Name) → is_declared creates name ≡ true
    → (create : Create) × In create creates × (create.name.name ≡ name)
declared_at creates name e =
    let found = any_some (λ (create : Create). same_name create.name.name name) creates e in
    (found.0, found.1, equal_names found.0.name.name name found.2)

looked_up : (creates : List Create) (database : Database) (name : Name)
    → (is_declared creates name ≡ false → database name ≡ set.empty)
    → database name ≡ database_of creates (map (λ (create : Create). database create.name.name) creates) name
looked_up [] database name none = none refl
looked_up (create ∷ more) database name none =
    by (same_name create.name.name name) refl none (looked_up more database name)
  where
    by : (b : Bool) → same_name create.name.name name ≡ b
        → ((b || is_declared more name) ≡ false → database name ≡ set.empty)
        → ((is_declared more name ≡ false → database name ≡ set.empty)
        → database name ≡ database_of more (map (λ (create : Create). database create.name.name) more) name)
        → database name ≡ (if b then database create.name.name
        else database_of more (map (λ (create : Create). database create.name.name) more) name)
    by true same none rest = ap database (sym (equal_names create.name.name name same))
    by false differs none rest = rest none

in_nothing : {A : Type 0} (row : List Value) → set.contains (set.empty {R = row_cmp}) row ≡ true → A
in_nothing row there = clash (set.contains (set.empty {R = row_cmp}) row) there (contains-empty row_cmp row)

-- rows have a value for each column
wide_under : (creates : List Create) (tables : Tables) → AreKinded (schemas_of creates) tables → (name : Name)
    (row : List Value) → set.contains (database_of creates tables name) row ≡ true
    → length row ≡ length (columns_of creates name)
wide_under [] tables kinded name row there = in_nothing row there
wide_under (create ∷ more) [] kinded name row there = absurd kinded
wide_under (create ∷ more) (rows ∷ tables) kinded name row there =
    by (same_name create.name.name name) there (wide_under more tables kinded.1 name row)
  where
    by : (b : Bool) → set.contains (if b then rows else database_of more tables name) row ≡ true
        → (set.contains (database_of more tables name) row ≡ true → length row ≡ length (columns_of more name))
        → length row
        ≡ length (if b then map (λ (column : Column). column.name.name) create.columns else columns_of more name)
    by true there rest =
        as_many create.columns row (kinded.0 row there)
        ∙ sym (length-map create.columns (λ (column : Column). column.name.name))
    by false there rest = rest there

-- ---- databases

-- a database as tables of rows of their columns' kinds, whose values can be told
pub record IsStored (declared : List Create) (database : Database) : Type 0 where
  pub tables : Tables
  pub is : database ≡ database_of declared tables
  pub kinded : AreKinded (schemas_of declared) tables
  pub rows : HoldsRows database
  pub few : HoldsFew database

module _ (declared : List Create) (database : Database) where
  pub stored_wide : IsStored declared database → (name : Name) (row : List Value)
      → set.contains (database name) row ≡ true → length row ≡ length (columns_of declared name)
  stored_wide stored name row there =
      wide_under declared stored.tables stored.kinded name row
      (ap (λ (d : Database). set.contains (d name) row) (sym stored.is) ∙ there)

  pub holds_stored : declarations_fault [] declared ≡ None → IsStored declared database
      → HoldsRowsOf declared database
  holds_stored none stored =
      record {
        rows = λ create there row has. (
          stored.rows create.name.name row has,
          kinds_under declared stored.tables stored.kinded (names_apart declared none) create
              (contains_in declared create there) row
              (ap (λ (d : Database). set.contains (d create.name.name) row) (sym stored.is) ∙ has)
              ∙ schema_kinds create.columns,
        );
        few = λ create there. stored.few create.name.name;
        others = λ name e.
            ap (λ (d : Database). d name) stored.is ∙ nothing_under declared stored.tables name e;
      }

  module _ (holds : HoldsRowsOf declared database) where
    tables_kinded : (creates : List Create) → ((create : Create) → In create creates → In create declared)
        → AreKinded (schemas_of creates) (map (λ (create : Create). database create.name.name) creates)
    tables_kinded [] among = tt
    tables_kinded (create ∷ more) among = (
      (λ row there.
          (holds.rows create (in_contains declared create (among create (inl refl))) row there).1
          ∙ sym (schema_kinds create.columns)),
      tables_kinded more (λ other at. among other (inr at)),
    )

    rows_hold : HoldsRows database
    rows_hold name row there = by (is_declared declared name) refl
      where
        by : (b : Bool) → is_declared declared name ≡ b → IsRow row
        by true is =
            let found = declared_at declared name is in
            (holds.rows found.0 (in_contains declared found.0 found.1) row
            (ap (λ (n : Name). set.contains (database n) row) found.2 ∙ there)).0
        by false is =
            in_nothing row (ap (λ (rows : Rows). set.contains rows row) (sym (holds.others name is)) ∙ there)

    few_hold : HoldsFew database
    few_hold name = by (is_declared declared name) refl
      where
        by : (b : Bool) → is_declared declared name ≡ b → set.len (database name) ≤ 65536
        by true is =
            let found = declared_at declared name is in
            subst (λ (n : Name). set.len (database n) ≤ 65536) found.2
            (holds.few found.0 (in_contains declared found.0 found.1))
        by false is =
            let none : set.len (database name) ≡ 0 =
            ap (λ (rows : Rows). set.len rows) (holds.others name is) ∙ len-empty row_cmp in
            omega (arith, none)

    pub stored_held : IsStored declared database
    stored_held = record {
      tables = map (λ (create : Create). database create.name.name) declared;
      is = λ i name. looked_up declared database name (holds.others name) i;
      kinded = tables_kinded declared (λ create at. at);
      rows = rows_hold;
      few = few_hold;
    }
