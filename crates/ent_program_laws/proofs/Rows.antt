-- Sets of rows, in order and counted.
use Rattle.std.proofs.Common.{◌≡◌, ◌≤◌, Bool, List, sym, ap, ◌∙◌, arith}
use Rattle.std.specs.List.{filter}
use Rattle.ent_lists.specs.Sets as set
use Rattle.ent_lists.specs.Laws.{from_list-ascending, len-from_list}
use Rattle.ent_lists.specs.Laws.{from_list-filter}
use Rattle.ent_value.specs.Order.{exact_rows, rows_total}
use Rattle.ent_value.specs.Value.{row_cmp}
use Rattle.ent_value.specs.declared.value.Value.{Value}
use Rattle.ent_rel.proofs.Keyed.{rows_ascend}
use Rattle.ent_semantics.specs.Database.{Rows}
use Rattle.ent_book.proofs.Ascending.{count_of_ascending}
use Rattle.ent_lists.specs.Elements.{pairs_index, shorter, rise}
use Rattle.ent_report_laws.specs.Tellable.{RowsRise}
use Rattle.ent_report_laws.proofs.Shown.{IsBelow}

-- ---- in order

pub rows_rise : (rows : Rows) → RowsRise (set.ascending rows)
rows_rise rows = pairs_index IsBelow (set.ascending rows) (rise row_cmp (set.ascending rows) (rows_ascend rows))

-- ---- counted

pub retained_few : (rows : Rows) (keeps : List Value → Bool) → set.len (set.retain rows keeps) ≤ set.len rows
retained_few rows keeps =
    let listed = set.ascending rows in
    let kept : set.retain rows keeps ≡ set.from_list {R = row_cmp} (filter keeps listed) =
    ap (λ (of : Rows). set.retain of keeps) (sym (from_list-ascending rows_total exact_rows rows))
    ∙ sym (from_list-filter rows_total exact_rows keeps listed) in
    let many : set.len (set.retain rows keeps) ≡ set.len (set.from_list {R = row_cmp} (filter keeps listed)) =
    ap (λ (of : Rows). set.len of) kept in
    omega (
      arith,
      many,
      len-from_list rows_total exact_rows (filter keeps listed),
      shorter keeps listed,
      count_of_ascending rows,
    )
