use Rattle.std.proofs.Common.{◌≡◌, ap, sym, subst, ◌∙◌, length, arith}
use Rattle.std.specs.List.{filter}
use Rattle.std.specs.Prelude.{Ok}
use Rattle.std.proofs.lemmas.Result.{err_from_is_err_and}
use Rattle.std.specs.List.Sorted.{IsStrictlySortedBy}
use Rattle.std.proofs.lemmas.Map.Keys.{IsDistinct-from_sorted}
use Rattle.ent_lists.specs.Sets as set
use Rattle.ent_lists.specs.Laws.{from_list-ascending}
use Rattle.ent_value.specs.Value.{row_cmp}
use Rattle.ent_value.specs.Order.{rows_total, exact_rows}
use Rattle.ent_rel.specs.Relation.{RowSet}
use Rattle.ent_rel.specs.Change.{replacement}
use Rattle.ent_rel.proofs.Lists.{computes_listed, taken_from, part_there, taken_answers, taken_kinds}
use Rattle.ent_rel.proofs.Meanings.{replaced, replaced_so, not_replaced_unless, fits_part}
use Rattle.ent_rel.proofs.Keyed.{rows_ascend}
use Rattle.ent_rel.proofs.table.Table.replace.Goals as goal

pub returns-in_err-added-clause-change : goal.returns-in_err-added-clause-change
returns-in_err-added-clause-change g c = λ passes excused image computes answers.
    let items = c.in_ok-rows.rows.items in
    let s : RowSet = c.args.self.now.rows in
    let matched = c.as_slice-2.result.now in
    let view : set.from_list items ≡ s = ap (λ rs. set.from_list {R = row_cmp} rs) c.in_ok-rows.ensures.rows
    ∙ from_list-ascending rows_total exact_rows c.args.self.now.rows in
    let listed = computes_listed g.F.Fn c.args.test items c.as_slice.result.now s passes view c.as_slice.ensures.value
    computes in
    let removed : matched ≡ filter passes items = c.as_slice-2.ensures.value
    ∙ c.in_ok-removed.ensures.passing passes listed ∙ ap (filter passes) c.as_slice.ensures.value in
    let part = taken_from items c.as_slice.result.now c.in_ok-removed.removed.items matched c.as_slice.ensures.value
    c.as_slice-2.ensures.value c.in_ok-removed.ensures.part in
    let here = taken_answers g.G.Fn c.args.change items matched s view (part_there items matched part) excused image
    answers in
    let found = err_from_is_err_and c.from_residual-in_err-added.result c.from_residual-in_err-added.ensures.1 in
    rw (found.1, found.2) (not_replaced_unless excused s matched image (replacement s passes image)
    c.in_err-added.field-0.0
    (replaced s items matched passes image view (subst (IsStrictlySortedBy row_cmp)
    (sym c.in_ok-rows.ensures.rows) (rows_ascend c.args.self.now.rows)) removed)
    (c.in_err-added.ensures.images excused image here))

pub returns-clause-kinds : goal.returns-clause-kinds
returns-clause-kinds g c =
    let items = c.in_ok-rows.rows.items in
    let matched = c.as_slice-2.result.now in
    let view : set.from_list items ≡ c.args.self.now.rows = ap
    (λ rs. set.from_list {R = row_cmp} rs) c.in_ok-rows.ensures.rows
    ∙ from_list-ascending rows_total exact_rows c.args.self.now.rows in
    let part = taken_from items c.as_slice.result.now c.in_ok-removed.removed.items matched c.as_slice.ensures.value
    c.as_slice-2.ensures.value c.in_ok-removed.ensures.part in
    rw c.from_vec-2.ensures (c.in_ok-added.ensures.kinds c.args.self.now.kinds
    (taken_kinds g.G.Fn c.args.change items matched c.args.self.now.rows view
    (part_there items matched part) c.args.self.now.kinds c.requires.kinds))

pub returns-clause-fits : goal.returns-clause-fits
returns-clause-fits g c =
    let items = c.in_ok-rows.rows.items in
    let part = taken_from items c.as_slice.result.now c.in_ok-removed.removed.items c.from_vec.result
    c.as_slice.ensures.value c.from_vec.ensures c.in_ok-removed.ensures.part in
    fits_part c.args.self.now.rows items c.from_vec.result c.from_vec-2.result (ap
    (λ rs. set.from_list {R = row_cmp} rs) c.in_ok-rows.ensures.rows
    ∙ from_list-ascending rows_total exact_rows c.args.self.now.rows) (IsDistinct-from_sorted row_cmp items
    (subst (IsStrictlySortedBy row_cmp) (sym c.in_ok-rows.ensures.rows)
    (rows_ascend c.args.self.now.rows))) c.in_ok-rows.ensures.limit part
    (omega (
      arith,
      ap length c.from_vec-2.ensures,
      ap length c.from_vec.ensures,
      ap length c.as_slice-2.ensures.value,
      c.in_ok-added.ensures.len,
    ))

pub returns-clause-change : goal.returns-clause-change
returns-clause-change g c = λ passes excused image computes answers.
    let items = c.in_ok-rows.rows.items in
    let s : RowSet = c.args.self.now.rows in
    let matched = c.as_slice-2.result.now in
    let view : set.from_list items ≡ s = ap (λ rs. set.from_list {R = row_cmp} rs) c.in_ok-rows.ensures.rows
    ∙ from_list-ascending rows_total exact_rows c.args.self.now.rows in
    let listed = computes_listed g.F.Fn c.args.test items c.as_slice.result.now s passes view c.as_slice.ensures.value
    computes in
    let part = taken_from items c.as_slice.result.now c.in_ok-removed.removed.items matched c.as_slice.ensures.value
    c.as_slice-2.ensures.value c.in_ok-removed.ensures.part in
    let here = taken_answers g.G.Fn c.args.change items matched s view (part_there items matched part) excused image
    answers in
    let removed : c.from_vec.result ≡ filter passes items = c.from_vec.ensures
    ∙ c.in_ok-removed.ensures.passing passes listed ∙ ap (filter passes) c.as_slice.ensures.value in
    let same : matched ≡ c.from_vec.result = c.as_slice-2.ensures.value ∙ sym c.from_vec.ensures in
    let count : length c.from_vec.result ≡ c.len-count.result = ap length c.from_vec.ensures
    ∙ sym c.in_ok-removed.removed.ok.0 ∙ sym c.len-count.ensures in
    let made = rw same at (c.in_ok-added.ensures.images excused image here) in
    replaced_so s c.from_vec.result c.from_vec-2.result c.len-count.result image (replacement s passes image)
    (replaced s items c.from_vec.result passes image view (subst (IsStrictlySortedBy row_cmp)
    (sym c.in_ok-rows.ensures.rows) (rows_ascend c.args.self.now.rows)) removed)
    (made ∙ ap (λ xs. Ok xs) (sym c.from_vec-2.ensures)) count
