-- The opening that a report tells: its tables by name, and rows in tables of their kinds.
use Rattle.std.proofs.Common.{◌≡◌, Bool, true, false, cond, List, [], ◌∷◌, ◌++◌, map, refl, sym, ap, subst, ◌∙◌}
use Rattle.std.proofs.Common.{inl, Some}
use Rattle.std.specs.List.{AllByRecursion, filter}
use Rattle.std.specs.Cmp.Lexicographic.{slice_cmp, texts_ties}
use Rattle.std.specs.Ordering.{nat_cmp, is_eq}
use Rattle.std.specs.declared.cmp.Ordering.TheVariants.{Less}
use Rattle.std.proofs.lemmas.Cmp.{nat_list_cmp_total}
use Rattle.std.proofs.lemmas.List.{append-nil}
use Rattle.ent_value.specs.Value.{kinds_of}
use Rattle.ent_value.specs.declared.value.Value.{Value}
use Rattle.ent_tree.specs.declared.declaration.Create.{Create}
use Rattle.ent_tree.specs.declared.declaration.Opening.{Opening}
use Rattle.ent_tree.specs.declared.declaration.OpeningRow.{OpeningRow}
use Rattle.ent_semantics.specs.Names.{name_itself}
use Rattle.ent_history.specs.Told.{opening_row}
use Rattle.ent_history.specs.Draft.{last_of}
use Rattle.ent_history.specs.Opening.{IsDeclaration, NamesAscend}
pub use Rattle.ent_history.proofs.Opened.{row_again}
use Rattle.ent_lists.specs.Elements.{In, Pairs, of_all, all_by, all_joined, in_first, in_second, filter_empty}
use Rattle.ent_lists.specs.Elements.{filter_joined, map_joined, pairs_behind}
use Rattle.ent_semantics.specs.Database.{Name, row_of, same_name, rows_named}
use Rattle.ent_report_laws.proofs.Lists.{all_before, ends}

-- a name stands before another, by bytes
abbrev pub Before : Create → Create → Type 0
Before first second = slice_cmp nat_cmp first.name.name second.name.name ≡ Less

-- a row of a table of these, of the kinds of its columns
abbrev pub IsRowOf : List Create → OpeningRow → Type 0
IsRowOf tables row =
    (create : Create) × In create tables × (row.table.name ≡ create.name.name)
    × (kinds_of (row_of row) ≡ map (λ column. column.kind) create.columns)

pub record IsOpened (opening : Opening) : Type 0 where
  pub apart : Pairs Before opening.tables
  pub declarations : AllByRecursion IsDeclaration opening.tables
  pub rows : AllByRecursion (IsRowOf opening.tables) opening.rows

pub nothing_opened : IsOpened (record { tables = []; rows = [] })
nothing_opened = record { apart = tt; declarations = tt; rows = tt }

-- ---- names

pub other_name : (first second : Create) → Before first second → same_name first.name.name second.name.name ≡ false
other_name first second e = texts_ties first.name.name second.name.name ∙ ap is_eq e

-- where the last name comes before a new one, all do
before_all : (tables : List Create) (create : Create) → Pairs Before tables → NamesAscend tables create
    → (other : Create) → In other tables → Before other create
before_all tables create apart ascend =
    all_before Before (λ a b c. nat_list_cmp_total.trans a.name.name b.name.name c.name.name) tables create apart ascend

-- ---- rows

abbrev pub names_it : Name → OpeningRow → Bool
names_it name row = same_name row.table.name name

-- the rows under a name, with one more behind them
pub under_more : (rows : List OpeningRow) (name other : Name) (row : List Value) (test : Bool)
    → same_name name other ≡ test
    → map row_of (filter (names_it other) (rows ++ opening_row name row ∷ []))
    ≡ map row_of (filter (names_it other) rows) ++ cond test (row ∷ []) []
under_more rows name other row test e =
    ap (map row_of) (filter_joined (names_it other) rows (opening_row name row ∷ []))
    ∙ map_joined row_of (filter (names_it other) rows) (filter (names_it other) (opening_row name row ∷ []))
    ∙ ap (λ more. map row_of (filter (names_it other) rows) ++ more) (by test e)
  where
    by : (test : Bool) → same_name name other ≡ test
        → map row_of (filter (names_it other) (opening_row name row ∷ [])) ≡ cond test (row ∷ []) []
    by true e =
        ap (λ (b : Bool). map row_of (cond b (opening_row name row ∷ []) [])) e ∙ ap (λ v. v ∷ []) (row_again name row)
    by false e = ap (λ (b : Bool). map row_of (cond b (opening_row name row ∷ []) [])) e

module _ (opening : Opening) where
  abbrev pub with_table : Create → Opening
  with_table create = record opening { tables = opening.tables ++ create ∷ [] }

  abbrev pub with_row : Name → List Value → Opening
  with_row name row = record opening { rows = opening.rows ++ opening_row name row ∷ [] }

  -- no row stands in a table that comes behind all
  pub none_under : (create : Create) → IsOpened opening → NamesAscend opening.tables create
      → rows_named opening create.name.name ≡ []
  none_under create opened ascend =
      ap (map row_of) (filter_empty (names_it create.name.name) opening.rows (λ row at.
      let there = of_all (IsRowOf opening.tables) opening.rows row opened.rows at in
      ap (λ (n : Name). same_name n create.name.name) there.2
      ∙ other_name there.0 create (before_all opening.tables create opened.apart ascend there.0 there.1)))

  pub under_itself : (name : Name) (row : List Value)
      → rows_named (with_row name row) name ≡ rows_named opening name ++ row ∷ []
  under_itself name row = under_more opening.rows name name row true (name_itself name)

  pub under_other : (name other : Name) (row : List Value) → same_name name other ≡ false
      → rows_named (with_row name row) other ≡ rows_named opening other
  under_other name other row e =
      under_more opening.rows name other row false e ∙ append-nil (rows_named opening other)

  pub table_opened : (create : Create) → IsOpened opening → IsDeclaration create → NamesAscend opening.tables create
      → IsOpened (with_table create)
  table_opened create opened declaration ascend = record {
    apart = pairs_behind Before opening.tables create opened.apart
        (before_all opening.tables create opened.apart ascend);
    declarations = all_joined IsDeclaration opening.tables (create ∷ []) opened.declarations (declaration, tt);
    rows = all_by (IsRowOf opening.tables) (IsRowOf (opening.tables ++ create ∷ [])) opening.rows
        (λ row there. (there.0, in_first opening.tables (create ∷ []) there.0 there.1, there.2, there.3)) opened.rows;
  }

  pub row_opened : (create : Create) (row : List Value) → IsOpened opening → last_of opening.tables ≡ Some create
      → kinds_of row ≡ map (λ column. column.kind) create.columns → IsOpened (with_row create.name.name row)
  row_opened create row opened last kinds = record {
    apart = opened.apart;
    declarations = opened.declarations;
    rows = all_joined (IsRowOf opening.tables) opening.rows (opening_row create.name.name row ∷ []) opened.rows
        ((create, there, refl, ap kinds_of (row_again create.name.name row) ∙ kinds), tt);
  }
    where
      there : In create opening.tables
      there = let w = ends opening.tables create last in
          subst (In create) (sym w.1) (in_second w.0 (create ∷ []) create (inl refl))
