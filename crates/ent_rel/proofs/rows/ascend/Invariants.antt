use Rattle.std.proofs.Common.{◌≡◌, ℕ, ◌+◌, ◌<◌, get_or}
use Rattle.std.specs.declared.cmp.Ordering.TheVariants.{Less}
use Rattle.ent_value.specs.Value.{row_cmp}
use Rattle.ent_value.specs.declared.row.Row.{Row}
use Rattle.ent_rel.proofs.rows.ascend.Given as goal

abbrev pub invariant-loop-index : goal.invariant-loop-index
invariant-loop-index l =
    (k : ℕ) (d : Row) → k + 1 < l.index → row_cmp (get_or l.rows k d) (get_or l.rows (k + 1) d) ≡ Less
