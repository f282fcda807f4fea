use Rattle.std.proofs.Common.{◌∙◌, ap}
use Rattle.std.specs.List.{list_any}
use Rattle.std.specs.Ordering.{eq_by_cmp}
use Rattle.ent_lists.specs.Laws.{contains-list, from_list-ascending}
use Rattle.ent_lists.specs.Sets as set
use Rattle.ent_value.specs.Order.{exact_rows, rows_total}
use Rattle.ent_value.specs.Value.{row_cmp}
use Rattle.ent_check.proofs.ground.is_among.Goals as goal

pub returns : goal.returns
returns c of same =
    c.contains.ensures.value
    ∙ ap (list_any (λ y. eq_by_cmp row_cmp y c.args.row.now)) same
    ∙ contains-list rows_total exact_rows (set.ascending of) c.args.row.now
    ∙ ap (λ s. set.contains s c.args.row.now) (from_list-ascending rows_total exact_rows of)
