-- The net change of a set of rows, and what it does to the set.
use Rattle.std.proofs.Common.{◌≡◌, Bool, true, false, not, List, [], refl, sym, subst, ap, ◌∙◌, All}
use Rattle.std.specs.Prelude.{◌||◌, ◌&&◌, ◌↔◌, Contains, IsFalse, IsTrue}
use Rattle.std.specs.List.{filter, list_any}
use Rattle.std.specs.Ordering.{eq_by_cmp}
use Rattle.std.proofs.lemmas.List.Elements.{All-from_recursion}
use Rattle.ent_lists.specs.Sets as set
use Rattle.ent_lists.specs.Laws.{contains-ascending, contains-from_list, contains-insert_all, contains-retain}
use Rattle.ent_lists.specs.Laws.{contains-without_all, from_list-ascending, from_list-filter, same_set}
use Rattle.std.proofs.lemmas.Map.Views.{list_any-from_Contains, Contains-from_any}
use Rattle.ent_lists.specs.Elements.{In, and_both, any_in, both_and, filter_empty, filter_same, of_filter, to_all}
use Rattle.ent_lists.specs.Elements.{turned}
use Rattle.ent_value.specs.declared.value.Kind.{Kind}
use Rattle.ent_value.specs.declared.value.Value.{Value}
use Rattle.ent_value.specs.Value.{kinds_of, row_cmp}
use Rattle.ent_value.specs.Order.{rows_total, exact_rows, rows_equal}
use Rattle.ent_rel.specs.Change.{changed_rows}
use Rattle.ent_rel.specs.Relation.{RowSet, HaveKinds}
use Rattle.ent_rel.proofs.Lists.{same_rows}
use Rattle.ent_feed.specs.NetChange.{net_change, rows_without}
use Rattle.ent_feed.specs.Walk.{rows_beside}

-- what stands in one of two ascending lists alone is what stands in one of two sets alone
pub beside_is_without : (rows others : RowSet) → rows_beside (set.ascending rows) (set.ascending others)
    ≡ rows_without rows others
beside_is_without rows others =
    filter_same _ _ (set.ascending rows) (λ row at. ap not (sym (contains-ascending others row)))

-- an element of the list of a set is in the set
pub listed_there : (rows : RowSet) (row : List Value) → In row (set.ascending rows) → set.contains rows row ≡ true
listed_there rows row at =
    contains-ascending rows row ∙ any_in (eq_by_cmp row_cmp row) (set.ascending rows) row at (rows_equal.refl row)

-- a row stands in the one set and not in the other
pub there_alone : (rows others : RowSet) (row : List Value)
    → list_any (eq_by_cmp row_cmp row) (rows_without rows others)
    ≡ (set.contains rows row && not (set.contains others row))
there_alone rows others row =
    let test : List Value → Bool = λ q. not (set.contains others q) in
    sym (contains-from_list rows_total exact_rows (filter test (set.ascending rows)) row)
    ∙ ap (λ (s : RowSet). set.contains s row) (from_list-filter rows_total exact_rows test (set.ascending rows)
    ∙ ap (λ (s : RowSet). set.retain s test) (from_list-ascending rows_total exact_rows rows))
    ∙ contains-retain rows_total rows test row (λ x tied. sym (ap test (exact_rows row x tied)))

-- nothing is left of a set without itself
pub without_itself : (rows : RowSet) → rows_without rows rows ≡ []
without_itself rows =
    filter_empty _ (set.ascending rows) (λ row at. ap not (listed_there rows row at))

by_cases : (old new : Bool) → ((new && not old) || (old && not (old && not new))) ≡ new
by_cases true true = refl
by_cases true false = refl
by_cases false true = refl
by_cases false false = refl

-- the net change takes the one set to the other
pub change_applies : (before after : RowSet)
    → changed_rows before (rows_without before after) (rows_without after before) ≡ after
change_applies before after =
    let removed = rows_without before after in
    let added = rows_without after before in
    same_set rows_total exact_rows _ _ (λ row.
    contains-insert_all rows_total exact_rows (set.without_all before removed) added row
    ∙ ap (λ b. list_any (eq_by_cmp row_cmp row) added || b)
    (contains-without_all rows_total exact_rows before removed row)
    ∙ (λ i. there_alone after before row i
    || (set.contains before row && not (there_alone before after row i)))
    ∙ by_cases (set.contains before row) (set.contains after row))

pub alone_have_kinds : (kinds : List Kind) (rows others : RowSet) → HaveKinds kinds rows
    → All (λ row. kinds_of row ≡ kinds) (rows_without rows others)
alone_have_kinds kinds rows others have =
    All-from_recursion _ (rows_without rows others)
    (to_all (λ row. kinds_of row ≡ kinds) (rows_without rows others) (λ row at.
    have row (listed_there rows row (of_filter (λ q. not (set.contains others q)) (set.ascending rows) row at).0)))

-- ---- what the code makes

module _ (before after : RowSet) (removed added : List (List Value)) where
  pub made_of_same : before ≡ after → removed ≡ [] → added ≡ []
      → (removed ≡ rows_without before after) × (added ≡ rows_without after before)
  made_of_same same none none_too = (
    none ∙ sym (without_itself before) ∙ ap (λ (rows : RowSet). rows_without before rows) same,
    none_too ∙ sym (without_itself after) ∙ ap (λ (rows : RowSet). rows_without after rows) (sym same),
  )

  pub made_applies : removed ≡ rows_without before after → added ≡ rows_without after before
      → changed_rows before removed added ≡ after
  made_applies is is_too = (λ i. changed_rows before (is i) (is_too i)) ∙ change_applies before after

  pub made_have_kinds : (kinds : List Kind) → added ≡ rows_without after before → HaveKinds kinds after
      → All (λ row. kinds_of row ≡ kinds) added
  made_have_kinds kinds is have =
      let P : List (List Value) → Type 0 = λ rows. All (λ row. kinds_of row ≡ kinds) rows in
      subst P (sym is) (alone_have_kinds kinds after before have)

-- ---- laws

pub listed_alone : (rows others : RowSet) (row : List Value) → Contains (rows_without rows others) row
    ↔ (IsTrue (set.contains rows row) × IsFalse (set.contains others row))
listed_alone rows others row = (
  λ listed.
      let both = and_both _ _ (sym (there_alone rows others row)
      ∙ list_any-from_Contains rows_equal row (rows_without rows others) listed) in
      (both.0, turned _ both.1),
  λ apart. Contains-from_any same_rows row (rows_without rows others)
      (there_alone rows others row ∙ both_and _ _ apart.0 (ap not apart.1)),
)

pub none_changed : (rows : RowSet) → net_change rows rows ≡ record { removed = []; added = [] }
none_changed rows i = record { removed = without_itself rows i; added = without_itself rows i }
