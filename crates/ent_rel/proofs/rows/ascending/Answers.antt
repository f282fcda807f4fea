use Rattle.std.proofs.Common.{◌∙◌, rules, subst, sym}
use Rattle.std.specs.List.Sorted.{IsStrictlySortedBy}
use Rattle.std.specs.Ordering.{eq_by_cmp}
use Rattle.std.proofs.lemmas.List.Filters.{dedup_is}
use Rattle.ent_lists.specs.Laws.{ascending-from_list, ascending-from_sorted, is_sorted_from}
use Rattle.ent_value.specs.Value.{row_cmp}
use Rattle.ent_value.specs.Order.{rows_total, exact_rows}
use Rattle.ent_rel.proofs.rows.ascending.Goals as goal

pub returns-then-ascend : goal.returns-then-ascend
returns-then-ascend c =
    let rows = c.args.rows.items in
    let ascend : IsStrictlySortedBy row_cmp rows =
    subst (IsStrictlySortedBy row_cmp) c.as_slice.ensures.value (c.ascend.ensures (search rules)) in
    sym (ascending-from_list rows_total exact_rows rows (is_sorted_from row_cmp rows ascend))

pub returns : goal.returns
returns c =
    dedup_is (eq_by_cmp row_cmp) _ _ c.dedup.ensures.filtered
    ∙ ascending-from_sorted rows_total exact_rows c.args.rows.items c.sort.new.self.items
    c.in_ok-sort.ensures.permutation c.in_ok-sort.ensures.sorted
