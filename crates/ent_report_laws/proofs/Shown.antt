-- The tables that a report shows at the end: those of its opening in their order, each with ascending rows.
use Rattle.std.proofs.Common.{◌≡◌, ◌≢◌, ◌||◌, List, [], ◌∷◌, ◌++◌, length, refl}
use Rattle.std.proofs.Common.{sym, ap, subst, ◌∙◌, arith, inl, inr, Some, slice_get}
use Rattle.std.specs.List.{AllByRecursion}
use Rattle.std.specs.List.Sorted.{IsStrictlySortedBy}
use Rattle.std.specs.declared.cmp.Ordering.TheVariants.{Less}
use Rattle.ent_lists.specs.Laws.{ascending-from_list, is_sorted_from}
use Rattle.ent_lists.specs.Sets as set
use Rattle.ent_value.specs.Order.{exact_rows, rows_total}
use Rattle.ent_value.specs.Value.{row_cmp}
use Rattle.ent_value.specs.declared.value.Value.{Value}
use Rattle.ent_tree.specs.declared.declaration.Create.{Create}
use Rattle.ent_semantics.specs.Database.{Name, same_name}
use Rattle.ent_semantics.specs.Names.{name_itself}
use Rattle.ent_history.specs.declared.history.Shown.{Shown}
use Rattle.ent_history.specs.Draft.{last_of, on_last}
use Rattle.ent_history.specs.Parts.{Ascends}
use Rattle.ent_history.specs.Tables.{with_table_row}
use Rattle.ent_lists.specs.Elements.{In, Pairs, all_first, all_joined, all_second, clash, of_all, pairs_behind, to_all}
use Rattle.ent_history.specs.Formed.{is_declared, is_shown}
use Rattle.ent_report_laws.proofs.Lists.{all_before, changed, ends}
use Rattle.ent_report_laws.proofs.Opened.{Before, other_name}

-- these tables are shown so far
abbrev pub AreShown : List Create → List Shown → Type 0
AreShown creates [] = Unit {0}
AreShown [] (shown ∷ more) = ⊥
AreShown (create ∷ creates) (shown ∷ more) = (shown.name ≡ create.name.name) × AreShown creates more

-- one row stands before another
abbrev pub IsBelow : List Value → List Value → Type 0
IsBelow row other = row_cmp row other ≡ Less

abbrev pub Ascend : Shown → Type 0
Ascend shown = Pairs IsBelow shown.rows

pub none_shown : (creates : List Create) → AreShown creates []
none_shown [] = tt
none_shown (create ∷ creates) = tt

-- ---- what each line keeps

some_name : (create other : Create) → Some create ≡ Some other → other.name.name ≡ create.name.name
some_name create other e = cc

pub table_shown : (creates : List Create) (tables : List Shown) (create : Create) (rows : List (List Value))
    → AreShown creates tables → slice_get creates (length tables) ≡ Some create
    → AreShown creates (tables ++ record { name = create.name.name; rows = rows } ∷ [])
table_shown [] tables create rows so e = cc (e)
table_shown (first ∷ creates) [] create rows so e = (some_name first create e, none_shown creates)
table_shown (first ∷ creates) (shown ∷ tables) create rows so e =
    (so.0, table_shown creates tables create rows so.1 e)

pub row_shown : (creates : List Create) (tables : List Shown) (row : List Value) → AreShown creates tables
    → AreShown creates (on_last (with_table_row row) tables)
row_shown [] [] row so = tt
row_shown (create ∷ creates) [] row so = tt
row_shown [] (shown ∷ tables) row so = absurd so
row_shown (create ∷ creates) (shown ∷ []) row so = so
row_shown (create ∷ creates) (shown ∷ next ∷ tables) row so = (so.0, row_shown creates (next ∷ tables) row so.1)

pub row_ascends : (tables : List Shown) (shown : Shown) (row : List Value) → AllByRecursion Ascend tables
    → last_of tables ≡ Some shown → Ascends shown.rows row
    → AllByRecursion Ascend (on_last (with_table_row row) tables)
row_ascends tables shown row so last ascends =
    subst (AllByRecursion Ascend)
    (sym (ap (on_last (with_table_row row)) is ∙ changed (with_table_row row) front shown))
    (all_joined Ascend front (with_table_row row shown ∷ []) (all_first Ascend front (shown ∷ []) split) (
      pairs_behind IsBelow shown.rows row was
          (all_before IsBelow (λ a b c. rows_total.trans a b c) shown.rows row was ascends),
      tt,
    ))
  where
    front : List Shown
    front = (ends tables shown last).0

    is : tables ≡ front ++ shown ∷ []
    is = (ends tables shown last).1

    split : AllByRecursion Ascend (front ++ shown ∷ [])
    split = subst (AllByRecursion Ascend) is so

    was : Ascend shown
    was = (all_second Ascend front (shown ∷ []) split).0

-- ---- where all are shown

pub all_shown : (creates : List Create) (tables : List Shown) → AreShown creates tables
    → length tables ≡ length creates → (name : Name) → is_declared creates name ≡ is_shown tables name
all_shown [] [] so same name = refl
all_shown [] (shown ∷ tables) so same name = absurd so
all_shown (create ∷ creates) [] so same name = absurd (omega (arith, same))
all_shown (create ∷ creates) (shown ∷ tables) so same name =
    let rest : is_declared creates name ≡ is_shown tables name =
    all_shown creates tables so.1 (omega (arith, same)) name in
    λ i. same_name (sym so.0 i) name || rest i

declared_of : (creates : List Create) (tables : List Shown) (shown : Shown) → AreShown creates tables
    → In shown tables → (create : Create) × In create creates × (shown.name ≡ create.name.name)
declared_of creates [] shown so at = absurd at
declared_of [] (first ∷ tables) shown so at = absurd so
declared_of (create ∷ creates) (first ∷ tables) shown so (inl same) =
    (create, inl refl, ap (λ (s : Shown). s.name) same ∙ so.0)
declared_of (create ∷ creates) (first ∷ tables) shown so (inr at) =
    let rest = declared_of creates tables shown so.1 at in
    (rest.0, inr rest.1, rest.2)

pub shown_once : (creates : List Create) (tables : List Shown) → AreShown creates tables → Pairs Before creates
    → Pairs (λ (first second : Shown). first.name ≢ second.name) tables
shown_once creates [] so apart = tt
shown_once [] (shown ∷ tables) so apart = absurd so
shown_once (create ∷ creates) (shown ∷ tables) so apart = (
  to_all (λ (second : Shown). shown.name ≢ second.name) tables (λ second at same.
      let other = declared_of creates tables second so.1 at in
      clash (same_name create.name.name other.0.name.name)
      (ap (λ (n : Name). same_name create.name.name n) (sym other.2 ∙ sym same ∙ so.0) ∙ name_itself create.name.name)
      (other_name create other.0 (of_all (Before create) creates other.0 apart.0 other.1))),
  shown_once creates tables so.1 apart.1,
)

sorted : (rows : List (List Value)) → Pairs IsBelow rows → IsStrictlySortedBy row_cmp rows
unfolding IsStrictlySortedBy
sorted [] pairs = tt
sorted (row ∷ rows) pairs = (pairs.0, sorted rows pairs.1)

pub ascending_rows : (rows : List (List Value)) → Pairs IsBelow rows
    → set.ascending (set.from_list {R = row_cmp} rows) ≡ rows
ascending_rows rows pairs =
    ascending-from_list rows_total exact_rows rows (is_sorted_from row_cmp rows (sorted rows pairs))
