-- The opening as it grows.
use Rattle.std.proofs.Common.{◌≡◌, ℕ, ◌-◌, ◌<◌, ◌≤◌, Bool, true, false, List, [], ◌∷◌, ◌++◌, map, length, Some, None}
use Rattle.std.proofs.Common.{Option, refl, sym, ap, subst, ◌∙◌, inl, inr, arith}
use Rattle.std.specs.List.{filter, AllByRecursion}
use Rattle.std.specs.Cmp.Lexicographic.{slice_cmp, same_text}
use Rattle.std.specs.Ordering.{nat_cmp, ordering_reverse}
use Rattle.std.specs.declared.cmp.Ordering.TheVariants.{Less, Greater}
use Rattle.std.proofs.lemmas.Cmp.{nat_list_cmp_total}
use Rattle.std.proofs.lemmas.List.{length-map, map-append}
use Rattle.std.proofs.lemmas.List.Elements.{filter-append}
use Rattle.std.proofs.lemmas.Option.{same_Some, slice_get-map, slice_get_read}
use Rattle.std.specs.Prelude.{get_or, slice_get}
use Rattle.std.specs.Option.{option_map}
use Rattle.ent_value.specs.declared.value.Kind.{Kind}
use Rattle.ent_semantics.specs.Serial.{numbered}
use Rattle.ent_semantics.specs.Database.{Name, row_of, same_name, rows_named}
use Rattle.ent_semantics.specs.Names.{name_itself}
use Rattle.ent_history.specs.declared.history.History.{History}
use Rattle.ent_history.specs.declared.history.Shown.{Shown}
use Rattle.ent_report_reader.specs.Due.{TableTakes}
use Rattle.ent_value.specs.Value.{kinds_of, kind_of}
use Rattle.ent_value.specs.declared.value.Value.{Value}
use Rattle.ent_tree.specs.declared.declaration.Column.{Column}
use Rattle.ent_tree.specs.declared.declaration.Create.{Create}
use Rattle.ent_tree.specs.declared.declaration.Opening.{Opening}
use Rattle.ent_tree.specs.declared.declaration.OpeningRow.{OpeningRow}
use Rattle.ent_tree.specs.declared.limits.TheConstants.{MOST_PARTS}
use Rattle.ent_history.specs.Told.{opening_row}
use Rattle.ent_history.specs.Parts.{Ascends}
use Rattle.ent_history.specs.Opening.{NamesAscend, with_row}
use Rattle.ent_history.specs.Draft.{last_of}
use Rattle.ent_history.proofs.Lists.{last_of-push}
use Rattle.ent_history.proofs.Opened.{row_again}
use Rattle.ent_report_reader.specs.Opened.{EndsBelow, IsInOrder, IsUpTo, OpeningTakes}
use Rattle.ent_report_reader.proofs.Ends.{ascends_if, ends_below_if, last_split}

-- ---- names

not_below : (name : Name) → slice_cmp nat_cmp name name ≡ Less → ⊥
not_below name h =
    let other : slice_cmp nat_cmp name name ≡ Greater =
    nat_list_cmp_total.antisymm name name ∙ ap ordering_reverse h in
    let both : Less ≡ Greater = sym h ∙ other in cc

apart : (name other : Name) → slice_cmp nat_cmp name other ≡ Less → same_name name other ≡ false
apart name other h = by (same_name name other) refl
  where
    by : (test : Bool) → same_name name other ≡ test → test ≡ false
    by true e = absurd (not_below other
        (subst (λ n. slice_cmp nat_cmp n other ≡ Less) (same_text name other (sym e)) h))
    by false e = refl

below_next : (name last next : Name) → IsUpTo name last → slice_cmp nat_cmp last next ≡ Less
    → slice_cmp nat_cmp name next ≡ Less
below_next name last next (inl less) h = nat_list_cmp_total.trans name last next less h
below_next name last next (inr same) h = subst (λ n. slice_cmp nat_cmp n next ≡ Less) (sym same) h

-- ---- rows

abbrev IsBelow : Name → OpeningRow → Type 0
IsBelow name row = slice_cmp nat_cmp row.table.name name ≡ Less

all_below : (last next : Name) (rows : List OpeningRow) → slice_cmp nat_cmp last next ≡ Less
    → AllByRecursion (λ row. IsUpTo row.table.name last) rows → AllByRecursion (IsBelow next) rows
all_below last next [] h all = tt
all_below last next (row ∷ rows) h all =
    (below_next row.table.name last next all.0 h, all_below last next rows h all.1)

all_up_to : (next : Name) (rows : List OpeningRow) → AllByRecursion (IsBelow next) rows
    → AllByRecursion (λ row. IsUpTo row.table.name next) rows
all_up_to next [] all = tt
all_up_to next (row ∷ rows) all = (inl all.0, all_up_to next rows all.1)

none_under : (next : Name) (rows : List OpeningRow) → AllByRecursion (IsBelow next) rows
    → filter (λ (row : OpeningRow). same_name row.table.name next) rows ≡ []
none_under next [] all = refl
none_under next (row ∷ rows) all = rw (apart row.table.name next all.0) (none_under next rows all.1)

all_behind : (name : Name) (rows : List OpeningRow) (row : OpeningRow) → IsUpTo row.table.name name
    → AllByRecursion (λ (row : OpeningRow). IsUpTo row.table.name name) rows
    → AllByRecursion (λ (row : OpeningRow). IsUpTo row.table.name name) (rows ++ row ∷ [])
all_behind name [] row h all = (h, tt)
all_behind name (one ∷ rows) row h all = (all.0, all_behind name rows row h all.1)

-- the rows of the last table, with one more
pub under_with : (opening : Opening) (create : Create) (row : List Value)
    → rows_named (with_row create row opening) create.name.name ≡ rows_named opening create.name.name ++ row ∷ []
under_with opening create row =
    let name = create.name.name in
    let own : OpeningRow → Bool = λ (row : OpeningRow). same_name row.table.name name in
    let one : filter own (opening_row name row ∷ []) ≡ opening_row name row ∷ [] = rw (name_itself name) refl in
    ap (map row_of) (filter-append own opening.rows (opening_row name row ∷ [])
    ∙ ap (λ rs. filter own opening.rows ++ rs) one)
    ∙ map-append row_of (filter own opening.rows) (opening_row name row ∷ [])
    ∙ ap (λ r. map row_of (filter own opening.rows) ++ r ∷ []) (row_again name row)

-- ---- a table is opened

abbrev BelowNext : List OpeningRow → Create → Type 0
BelowNext rows create = AllByRecursion (IsBelow create.name.name) rows

rows_below : (tables : List Create) (rows : List OpeningRow) (last_row : Option (List Value)) (create : Create)
    → IsInOrder tables rows last_row → NamesAscend tables create → BelowNext rows create
rows_below tables rows last_row create order ascends = by (last_of tables) refl
  where
    by : (last : Option Create) → last_of tables ≡ last → BelowNext rows create
    by None e = subst (λ rs. BelowNext rs create) (sym (order.none e)) tt
    by (Some last) e =
        let split = last_split tables last e in
        all_below last.name.name create.name.name rows (ascends split.0 last split.1) (order.reached last e)

pub opened : (tables : List Create) (rows : List OpeningRow) (last_row : Option (List Value)) (create : Create)
    → IsInOrder tables rows last_row → NamesAscend tables create → IsInOrder (tables ++ create ∷ []) rows None
opened tables rows last_row create order ascends =
    let below = rows_below tables rows last_row create order ascends in record {
      reached = λ own h. subst
          (λ (c : Create). AllByRecursion (λ (row : OpeningRow). IsUpTo row.table.name c.name.name) rows)
          (is_last own h) (all_up_to create.name.name rows below);
      own = λ own h. subst (λ (c : Create). last_of
          (rows_named (record { tables = tables ++ create ∷ []; rows = rows }) c.name.name) ≡ None)
          (is_last own h) (ap (λ rs. last_of (map row_of rs)) (none_under create.name.name rows below));
      none = λ h. let e : Some create ≡ None = sym (last_of-push tables create) ∙ h in cc;
    }
  where
    is_last : (own : Create) → last_of (tables ++ create ∷ []) ≡ Some own → create ≡ own
    is_last own h = same_Some create own (sym (last_of-push tables create) ∙ h)

-- ---- a row is put behind the others

pub grown : (tables : List Create) (rows : List OpeningRow) (last_row : Option (List Value)) (create : Create)
    (row : List Value) → last_of tables ≡ Some create → IsInOrder tables rows last_row
    → IsInOrder tables (rows ++ opening_row create.name.name row ∷ []) (Some row)
grown tables rows last_row create row there order = record {
  reached = λ own h. subst
      (λ (c : Create). AllByRecursion (λ (row : OpeningRow). IsUpTo row.table.name c.name.name)
      (rows ++ opening_row create.name.name row ∷ []))
      (is_last own h) (all_behind create.name.name rows (opening_row create.name.name row) (inr refl)
      (order.reached create there));
  own = λ own h. subst (λ (c : Create). last_of
      (rows_named (record { tables = tables; rows = rows ++ opening_row create.name.name row ∷ [] }) c.name.name) ≡ Some
      row)
      (is_last own h) (ap last_of (under_with (record { tables = tables; rows = rows }) create row)
      ∙ last_of-push (rows_named (record { tables = tables; rows = rows }) create.name.name) row);
  none = λ h. let e : Some create ≡ None = sym there ∙ h in cc;
}
  where
    is_last : (own : Create) → last_of tables ≡ Some own → create ≡ own
    is_last own h = same_Some create own (sym there ∙ h)

pub in_order : IsInOrder [] [] None
in_order = record { reached = λ create h. cc; own = λ create h. cc; none = λ h. refl }

-- ---- what a row needs

pub takes : (tables : List Create) (rows : List OpeningRow) (last_row : Option (List Value)) (create : Create)
    (row : List Value) → IsInOrder tables rows last_row → last_of tables ≡ Some create
    → kinds_of row ≡ map (λ column. column.kind) create.columns → EndsBelow last_row row
    → OpeningTakes (record { tables = tables; rows = rows }) row
takes tables rows last_row create row order there kinds below = record {
  create = create;
  last = there;
  kinds = kinds;
  ascends = ascends_if (rows_named (record { tables = tables; rows = rows }) create.name.name) row
      (subst (λ o. EndsBelow o row) (sym (order.own create there)) below);
}

pub is_below : (tables : List Create) (rows : List OpeningRow) (last_row : Option (List Value)) (create : Create)
    (row : List Value) → IsInOrder tables rows last_row → last_of tables ≡ Some create
    → OpeningTakes (record { tables = tables; rows = rows }) row → EndsBelow last_row row
is_below tables rows last_row create row order there takes =
    let same : takes.create ≡ create = same_Some takes.create create (sym takes.last ∙ there) in
    let e : last_of (rows_named (record { tables = tables; rows = rows }) takes.create.name.name) ≡ last_row =
    ap (λ (c : Create). last_of (rows_named (record { tables = tables; rows = rows }) c.name.name)) same
    ∙ order.own create there in
    subst (λ o. EndsBelow o row) e
    (ends_below_if (rows_named (record { tables = tables; rows = rows }) takes.create.name.name) row takes.ascends)

pub is_of_kinds : (opening : Opening) (create : Create) (row : List Value) → last_of opening.tables ≡ Some create
    → OpeningTakes opening row → kinds_of row ≡ map (λ column. column.kind) create.columns
is_of_kinds opening create row there takes =
    takes.kinds ∙ ap (λ (c : Create). map (λ column. column.kind) c.columns)
    (same_Some takes.create create (sym takes.last ∙ there))

-- a row is no longer than the columns
pub no_longer : (opening : Opening) (create : Create) (row : List Value) → last_of opening.tables ≡ Some create
    → OpeningTakes opening row → length create.columns ≤ MOST_PARTS → length row ≤ MOST_PARTS
no_longer opening create row there can few =
    let kinds = is_of_kinds opening create row there can in
    omega (
      arith,
      few,
      ap length kinds,
      length-map row kind_of,
      length-map create.columns
          (λ (column : Column). column.kind),
    )

-- ---- kinds

pub never : false ≡ true → ⊥
never h = cc

pub kinds_at : (row : List Value) (columns : List Column) (i : ℕ) (value : Value) (column : Column)
    → i < length row → length row ≡ length columns → value ≡ get_or row i value → column ≡ get_or columns i column
    → kinds_of row ≡ map (λ (column : Column). column.kind) columns → kind_of value ≡ column.kind
kinds_at row columns i value column within even is_value is_column same =
    let kind : Column → Kind = λ column. column.kind in
    let left : slice_get (kinds_of row) i ≡ Some (kind_of value) =
    slice_get-map kind_of row i
    ∙ ap (option_map kind_of) (slice_get_read row (length row) i value refl within is_value) in
    let right : slice_get (map kind columns) i ≡ Some (kind column) =
    slice_get-map kind columns i
    ∙ ap (option_map kind) (slice_get_read columns (length row) i column even within is_column) in
    same_Some (kind_of value) (kind column) (sym left ∙ ap (λ ks. slice_get ks i) same ∙ right)

-- ---- a table at the end

numbered_last : {A X : Type 0} (xs : List X) (ys : List A) (y : A) → last_of ys ≡ Some y
    → numbered xs (length ys) ≡ slice_get xs (length ys - 1)
numbered_last xs [] y h = cc
numbered_last xs (z ∷ ys) y h =
    let at : length ys ≡ length (z ∷ ys) - 1 = omega arith in ap (slice_get xs) at

pub table_takes_if : (told : History) (row : List Value) (shown : Shown) (create : Create) (test : Bool)
    → last_of told.tables ≡ Some shown
    → slice_get told.opening.tables (length told.tables - 1) ≡ Some create
    → kinds_of row ≡ map (λ (column : Column). column.kind) create.columns
    → (test ≡ true → Ascends shown.rows row) × (Ascends shown.rows row → test ≡ true)
    → (test ≡ true → TableTakes told row) × (TableTakes told row → test ≡ true)
table_takes_if told row shown create test there of kinds tested = (
  λ t. record {
    shown = shown;
    create = create;
    last_is = there;
    of_opening = numbered_last told.opening.tables told.tables shown there ∙ of;
    kinds = kinds;
    ascends = tested.0 t;
  },
  λ can. tested.1 (subst (λ (s : Shown). Ascends s.rows row)
      (same_Some can.shown shown (sym can.last_is ∙ there)) can.ascends),
)
