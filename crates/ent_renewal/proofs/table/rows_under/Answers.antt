use Rattle.std.proofs.Common.{sym, ap, ◌∙◌}
use Rattle.ent_lists.specs.Laws.{len-empty}
use Rattle.ent_value.specs.Value.{row_cmp}
use Rattle.ent_semantics.specs.Database.{Rows}
use Rattle.ent_lists.specs.Sets as set
use Rattle.ent_renewal.proofs.table.rows_under.Goals as goal

pub returns-in-None-clause-rows : goal.returns-in-None-clause-rows
returns-in-None-clause-rows g c = sym (ap (λ (rows : Rows). set.len rows) c.in-None.ensures ∙ len-empty row_cmp)
