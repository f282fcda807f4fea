use Rattle.std.proofs.Common.{ap, sym, ◌∙◌, ◌==◌}
use Rattle.ent_lists.specs.Sets as set
use Rattle.ent_rel.specs.Relation.{Relation}
use Rattle.ent_rel.proofs.Keyed.{len_rows}
use Rattle.ent_rel.proofs.table.Table.is_empty.Goals as goal

pub returns : goal.returns
returns c = c.is_empty.ensures ∙ ap (λ n. n == 0) (sym
    (len_rows c.self.inside.kinds.items c.self.inside.keys c.self.invariant.fitting)
    ∙ ap (λ (t : Relation). set.len t.rows) c.self.view_is)
