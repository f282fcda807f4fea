-- Tables that are loaded with their opening rows.
use Rattle.std.proofs.Common.{◌≡◌, ℕ, zero, suc, ◌<◌, ◌≤◌, Bool, true, false, cond, ◌||◌, List, [], ◌∷◌, length}
use Rattle.std.proofs.Common.{map, get_or, Some, Result, Ok, Err, refl, sym, ap, ◌∙◌, arith, subst}
use Rattle.std.specs.Prelude.{slice_get, slice_index_or, nat_le, All}
use Rattle.std.specs.List.{filter, list_any}
use Rattle.std.specs.Ordering.{eq_by_cmp}
use Rattle.std.proofs.lemmas.Cmp.{eq_by_cmp_equiv}
use Rattle.std.proofs.lemmas.List.{length-map}
use Rattle.std.proofs.lemmas.Simd.{map-map}
use Rattle.std.proofs.lemmas.Option.{get_or_from_slice_get, slice_get_within}
use Rattle.std.proofs.lemmas.Bool.{le-leb}
use Rattle.ent_lists.specs.Elements.{shorter}
use Rattle.ent_lists.specs.Sets as set
use Rattle.ent_lists.specs.Laws.{contains-from_list, len-from_list}
use Rattle.ent_lists.proofs.Lists.{map_at}
use Rattle.ent_value.specs.declared.limits.TheConstants.{MOST_ROWS}
use Rattle.ent_value.specs.Value.{row_cmp, kinds_of}
use Rattle.ent_value.specs.Order.{rows_total, exact_rows}
use Rattle.ent_value.specs.declared.value.Value.{Value}
use Rattle.ent_value.specs.declared.value.Kind.{Kind}
use Rattle.ent_rel.specs.Relation.{RowSet, full, bounded}
use Rattle.ent_rel.specs.declared.fault.TableFull.{TableFull}
use Rattle.ent_value.specs.Refusal.{Refuses}
use Rattle.ent_value.specs.declared.refusal.Refusal.{Refusal}
use Rattle.ent_value.specs.declared.refusal.Refusal.TheVariants.{Memory, Fault}
use Rattle.ent_tree.specs.declared.declaration.Opening.{Opening}
use Rattle.ent_tree.specs.declared.declaration.OpeningRow.{OpeningRow}
use Rattle.ent_semantics.specs.Database.{Name, Rows, same_name, row_of, rows_named}
use Rattle.ent_semantics.specs.Kinds.{RowsHaveKinds}
use Rattle.ent_semantics.specs.Form.{Tables}
use Rattle.ent_form.specs.declared.catalogue.TableSchema.{TableSchema}
use Rattle.ent_form.specs.Catalogue.{table_schema, schemas_of, names_of}
use Rattle.ent_form.specs.TableKinds.{column_kinds, AreKinded}
use Rattle.ent_form.specs.Opened.{opening_tables}

-- the rows of a schema's table at first
abbrev pub rows_at_first : Opening → TableSchema → Rows
rows_at_first opening schema = set.from_list {R = row_cmp} (rows_named opening schema.name)

pub opened : (opening : Opening) (schemas : List TableSchema) → schemas ≡ schemas_of opening.tables
    → map (rows_at_first opening) schemas ≡ opening_tables opening
opened opening schemas is =
    ap (map (rows_at_first opening)) is
    ∙ map-map (rows_at_first opening) table_schema opening.tables

pub rows_of_table :
    (opening : Opening) (schemas : List TableSchema) (number : ℕ) (schema : TableSchema) (rows : List (List Value))
    → slice_get schemas number ≡ Some schema
    → rows ≡ rows_named opening (slice_index_or (names_of schemas) number []) → rows ≡ rows_named opening schema.name
rows_of_table opening schemas number schema rows there is =
    is ∙ ap (rows_named opening)
    (map_at (λ (s : TableSchema). s.name) schemas number schema [] (slice_get_within schemas number schema there)
    (sym (get_or_from_slice_get schemas number schema schema there)))

kinded_at : (f : TableSchema → Rows) (schemas : List TableSchema) (number : ℕ) (schema : TableSchema)
    → AreKinded schemas (map f schemas) → slice_get schemas number ≡ Some schema
    → RowsHaveKinds (column_kinds schema) (f schema)
kinded_at f [] number schema kinded there = absurd cc
kinded_at f (first ∷ more) zero schema kinded there =
    let same : first ≡ schema = cc in
    subst (λ (s : TableSchema). RowsHaveKinds (column_kinds s) (f s)) same kinded.0
kinded_at f (first ∷ more) (suc number) schema kinded there = kinded_at f more number schema kinded.1 there

any_at : {A : Type 0} (t : A → Bool) (xs : List A) (k : ℕ) (d : A) → k < length xs → t (get_or xs k d) ≡ true
    → list_any t xs ≡ true
any_at t [] k d lt is = absurd (omega arith)
any_at t (x ∷ xs) zero d lt is = ap (λ b. b || list_any t xs) is
any_at t (x ∷ xs) (suc k) d lt is = ap (λ b. t x || b) (any_at t xs k d (omega arith) is) ∙ either (t x)
  where
    either : (b : Bool) → (b || true) ≡ true
    either true = refl
    either false = refl

pub rows_fit :
    (opening : Opening) (schemas : List TableSchema) (number : ℕ) (schema : TableSchema) (kinds : List Kind)
    (rows : List (List Value))
    → schemas ≡ schemas_of opening.tables
    → slice_get schemas number ≡ Some schema → kinds ≡ column_kinds schema
    → rows ≡ rows_named opening (slice_index_or (names_of schemas) number [])
    → AreKinded (schemas_of opening.tables) (opening_tables opening) → All (λ row. kinds_of row ≡ kinds) rows
rows_fit opening schemas number schema kinds rows declared there kinds_are rows_are law k d lt =
    let kinded : AreKinded schemas (map (rows_at_first opening) schemas) =
    subst (λ (tables : Tables). AreKinded schemas tables) (sym (opened opening schemas declared))
    (subst (λ (s : List TableSchema). AreKinded s (opening_tables opening)) (sym declared) law) in
    let have = kinded_at (rows_at_first opening) schemas number schema kinded there in
    let row = get_or rows k d in
    let is = rows_of_table opening schemas number schema rows there rows_are in
    let contained : set.contains (set.from_list {R = row_cmp} rows) row ≡ true =
    contains-from_list rows_total exact_rows rows row ∙ any_at (eq_by_cmp row_cmp row) rows k d lt
    ((eq_by_cmp_equiv rows_total).refl row) in
    have row (ap (λ rs. set.contains (set.from_list {R = row_cmp} rs) row) (sym is) ∙ contained) ∙ sym kinds_are

-- ---- no table is too full

few_rows : (opening : Opening) (name : Name) → length opening.rows ≤ MOST_ROWS
    → set.len (set.from_list {R = row_cmp} (rows_named opening name)) ≤ MOST_ROWS
few_rows opening name le =
    let named = filter (λ (row : OpeningRow). same_name row.table.name name) opening.rows in
    let a : set.len (set.from_list {R = row_cmp} (rows_named opening name)) ≤ length (map row_of named) =
    len-from_list rows_total exact_rows (map row_of named) in
    let b : length (map row_of named) ≡ length named = length-map named row_of in
    let c : length named ≤ length opening.rows =
    shorter (λ (row : OpeningRow). same_name row.table.name name) opening.rows in
    omega arith

never_full : {X : Type 0} (rows : RowSet) (x : X) (fault : TableFull) → set.len rows ≤ MOST_ROWS
    → bounded rows x ≡ Err fault → ⊥
never_full {X} rows x fault le e = on (nat_le (set.len rows) MOST_ROWS) (le-leb (set.len rows) MOST_ROWS le) e
  where
    on : (b : Bool) → b ≡ true → cond b (Ok x) (Err full) ≡ Err fault → ⊥
    on true p q = cc
    on false p q = cc

pub fits_always : {X : Type 0} (opening : Opening) (name : Name) (rows : List (List Value)) (x : X) (fault : TableFull)
    → length opening.rows ≤ MOST_ROWS → rows ≡ rows_named opening name
    → bounded (set.from_list rows) x ≡ Err fault → ⊥
fits_always {X} opening name rows x fault le is h =
    never_full (set.from_list rows) x fault
    (subst (λ (rs : List (List Value)). set.len (set.from_list {R = row_cmp} rs) ≤ MOST_ROWS) (sym is)
    (few_rows opening name le)) h

-- what a full table tells
pub full_is : {Y : Type 0} (refusal : Refusal TableFull) (full : TableFull) (meant : Result Y TableFull)
    → refusal ≡ Fault full → Refuses refusal meant → meant ≡ Err full
full_is Memory full meant e h = absurd cc
full_is (Fault fault) full meant e h = let same : fault ≡ full = cc in h ∙ ap (λ f. Err f) same

pub loaded_is : {X : Type 0} (rows : RowSet) (x y : X) → bounded rows x ≡ Ok y → x ≡ y
loaded_is {X} rows x y e = on (nat_le (set.len rows) MOST_ROWS) e
  where
    on : (b : Bool) → cond b (Ok x) (Err full) ≡ Ok y → x ≡ y
    on true p = cc
    on false p = absurd cc
