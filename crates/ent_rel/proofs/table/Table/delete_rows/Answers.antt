use Rattle.std.proofs.Common.{◌≡◌, ap, sym, subst, ◌∙◌, length, arith}
use Rattle.std.specs.List.{filter}
use Rattle.std.specs.List.Sorted.{IsStrictlySortedBy}
use Rattle.std.proofs.lemmas.Map.Keys.{IsDistinct-from_sorted}
use Rattle.ent_lists.specs.Sets as set
use Rattle.ent_lists.specs.Laws.{from_list-ascending}
use Rattle.ent_value.specs.Value.{row_cmp}
use Rattle.ent_value.specs.Order.{rows_total, exact_rows}
use Rattle.ent_rel.specs.Change.{deletion, changed_rows}
use Rattle.ent_rel.proofs.Lists.{computes_listed, taken_from}
use Rattle.ent_rel.proofs.Meanings.{deletion_filter, fits_part}
use Rattle.ent_rel.proofs.Keyed.{rows_ascend}
use Rattle.ent_rel.proofs.table.Table.delete_rows.Goals as goal

pub returns-clause-change : goal.returns-clause-change
returns-clause-change g c = λ passes computes.
    let rows = c.in_ok-rows.rows.items in
    let s = c.args.self.now.rows in
    let view : set.from_list c.in_ok-rows.rows.items ≡ c.args.self.now.rows = ap
    (λ rs. set.from_list {R = row_cmp} rs) c.in_ok-rows.ensures.rows
    ∙ from_list-ascending rows_total exact_rows s in
    let sorted = subst (IsStrictlySortedBy row_cmp) (sym c.in_ok-rows.ensures.rows) (rows_ascend s) in
    let listed = computes_listed g.F.Fn c.args.test rows c.as_slice.result.now s passes view c.as_slice.ensures.value
    computes in
    let removed : filter passes rows ≡ c.from_vec.result = sym (c.from_vec.ensures
    ∙ c.in_ok-removed.ensures.passing passes listed ∙ ap (filter passes) c.as_slice.ensures.value) in
    let count : length (filter passes rows) ≡ c.len.result = ap length (removed ∙ c.from_vec.ensures)
    ∙ sym c.in_ok-removed.removed.ok.0 ∙ sym c.len.ensures in
    sym (ap (λ t. deletion t passes) (sym view) ∙ deletion_filter rows passes
    (IsDistinct-from_sorted row_cmp rows sorted)
    ∙ (λ i. (count i, changed_rows (view i) (removed i) (sym c.new.ensures i))))

pub returns-clause-fits : goal.returns-clause-fits
returns-clause-fits g c =
    let rows = c.in_ok-rows.rows.items in
    let s = c.args.self.now.rows in
    let view : set.from_list c.in_ok-rows.rows.items ≡ c.args.self.now.rows = ap
    (λ rs. set.from_list {R = row_cmp} rs) c.in_ok-rows.ensures.rows
    ∙ from_list-ascending rows_total exact_rows s in
    let sorted = subst (IsStrictlySortedBy row_cmp) (sym c.in_ok-rows.ensures.rows) (rows_ascend s) in
    let part = taken_from rows c.as_slice.result.now c.in_ok-removed.removed.items c.from_vec.result
    c.as_slice.ensures.value c.from_vec.ensures c.in_ok-removed.ensures.part in
    fits_part s rows c.from_vec.result c.new.result view
    (IsDistinct-from_sorted row_cmp rows sorted) c.in_ok-rows.ensures.limit part (omega
    (arith, ap length c.new.ensures))
