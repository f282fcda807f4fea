-- Tables whose names are declared once, each: what the database that they are holds under a name.
use Rattle.std.proofs.Common.{◌≡◌, Bool, true, false, ◌||◌, List, [], ◌∷◌, ◌++◌, map, None, refl, sym, ap, ◌∙◌}
use Rattle.std.proofs.Common.{inl, inr}
use Rattle.std.specs.Prelude.{if◌then◌else◌}
use Rattle.std.specs.List.{AllByRecursion, list_any}
use Rattle.std.proofs.lemmas.List.Folds.{list_any-append}
use Rattle.ent_lists.specs.Sets as set
use Rattle.ent_lists.specs.Elements.{In, Pairs, clash, neither, of_all}
use Rattle.ent_value.specs.Value.{kinds_of}
use Rattle.ent_tree.specs.declared.declaration.Column.{Column}
use Rattle.ent_tree.specs.declared.declaration.Create.{Create}
use Rattle.ent_semantics.specs.Database.{Name, same_name, is_among}
use Rattle.ent_semantics.specs.Kinds.{RowsHaveKinds}
use Rattle.ent_semantics.specs.Names.{name_itself}
use Rattle.ent_semantics.specs.Form.{Tables}
use Rattle.ent_form.specs.declared.catalogue.ColumnSchema.{ColumnSchema}
use Rattle.ent_form.specs.declared.fault.FormFault.TheVariants.{Repeated}
use Rattle.ent_form.specs.Catalogue.{column_schema, schemas_of, table_schema}
use Rattle.ent_form.specs.OpeningFault.{◌before◌, declarations_fault, refused_where, repeated}
use Rattle.ent_form.specs.TableKinds.{AreKinded, column_kinds}
use Rattle.ent_form.specs.Tables.{database_of}
use Rattle.ent_form.proofs.ResolvedSteps.{not_refused, nothing_first, nothing_later}

-- ---- names that are declared once

abbrev pub AreApart : Create → Create → Type 0
AreApart first second = same_name first.name.name second.name.name ≡ false

split_names : (earlier : List Name) (name : Name) (creates : List Create)
    → AllByRecursion (λ (create : Create). is_among (earlier ++ name ∷ []) create.name.name ≡ false) creates
    → AllByRecursion (λ (create : Create). is_among earlier create.name.name ≡ false) creates
    × AllByRecursion (λ (create : Create). same_name name create.name.name ≡ false) creates
split_names earlier name [] all = (tt, tt)
split_names earlier name (create ∷ creates) all =
    let other = create.name.name in
    let apart : (is_among earlier other || (same_name name other || false)) ≡ false =
    sym (list_any-append (λ x. same_name x other) earlier (name ∷ [])) ∙ all.0 in
    let more = split_names earlier name creates all.1 in
    let differs = neither (is_among earlier other) _ apart in
    ((differs.0, more.0), ((neither (same_name name other) false differs.1).0, more.1))

apart_behind : (earlier : List Name) (creates : List Create) → declarations_fault earlier creates ≡ None
    → AllByRecursion (λ (create : Create). is_among earlier create.name.name ≡ false) creates
    × Pairs AreApart creates
apart_behind earlier [] e = (tt, tt)
apart_behind earlier (create ∷ creates) e =
    let name = create.name.name in
    let new = refused_where (is_among earlier name) (Repeated create.name.place) in
    let inside = repeated [] (map (λ column. column.name) create.columns) in
    let rest = declarations_fault (earlier ++ name ∷ []) creates in
    let behind = apart_behind (earlier ++ name ∷ []) creates
    (nothing_later inside rest (nothing_later new (inside before rest) e)) in
    let parts = split_names earlier name creates behind.0 in (
      (
        not_refused (is_among earlier name) (Repeated create.name.place) (nothing_first new (inside before rest) e),
        parts.0,
      ),
      (parts.1, behind.1),
    )

pub names_apart : (creates : List Create) → declarations_fault [] creates ≡ None → Pairs AreApart creates
names_apart creates e = (apart_behind [] creates e).1

-- ---- kinds of columns

pub schema_kinds : (columns : List Column)
    → map (λ (column : ColumnSchema). column.kind) (map column_schema columns)
    ≡ map (λ (column : Column). column.kind) columns
schema_kinds [] = refl
schema_kinds (column ∷ columns) = ap (λ kinds. column.kind ∷ kinds) (schema_kinds columns)

-- ---- tables under their names

pub nothing_under : (creates : List Create) (tables : Tables) (name : Name)
    → list_any (λ create. same_name create.name.name name) creates ≡ false
    → database_of creates tables name ≡ set.empty
nothing_under [] tables name e = refl
nothing_under (create ∷ more) [] name e = refl
nothing_under (create ∷ more) (rows ∷ tables) name e =
    by (same_name create.name.name name) e (nothing_under more tables name)
  where
    by : (b : Bool) → (b || list_any (λ create. same_name create.name.name name) more) ≡ false
        → (list_any (λ create. same_name create.name.name name) more ≡ false
        → database_of more tables name ≡ set.empty)
        → (if b then rows else database_of more tables name) ≡ set.empty
    by true e rest = cc (e)
    by false e rest = rest e

-- rows have the kinds of their columns
pub kinds_under : (creates : List Create) (tables : Tables) → AreKinded (schemas_of creates) tables
    → Pairs AreApart creates → (create : Create) → In create creates
    → RowsHaveKinds (column_kinds (table_schema create)) (database_of creates tables create.name.name)
kinds_under [] tables kinded apart create at row there = absurd at
kinds_under (first ∷ more) [] kinded apart create at row there = absurd kinded
kinds_under (first ∷ more) (rows ∷ tables) kinded apart create at row there =
    by (same_name first.name.name create.name.name) refl at there
    (λ at. kinds_under more tables kinded.1 apart.1 create at row)
  where
    by : (b : Bool) → same_name first.name.name create.name.name ≡ b → In create (first ∷ more)
        → set.contains (if b then rows else database_of more tables create.name.name) row ≡ true
        → (In create more → set.contains (database_of more tables create.name.name) row ≡ true
        → kinds_of row ≡ column_kinds (table_schema create))
        → kinds_of row ≡ column_kinds (table_schema create)
    by true is (inl same) there rest =
        kinded.0 row there ∙ ap (λ (of : Create). column_kinds (table_schema of)) (sym same)
    by false is (inl same) there rest =
        clash (same_name first.name.name create.name.name)
        (ap (λ (of : Create). same_name first.name.name of.name.name) same ∙ name_itself first.name.name) is
    by true is (inr at) there rest =
        clash (same_name first.name.name create.name.name) is (of_all (AreApart first) more create apart.0 at)
    by false is (inr at) there rest = rest at there
