use Rattle.std.proofs.Common.{ap, sym, ◌∙◌}
use Rattle.ent_lists.specs.Sets as set
use Rattle.ent_rel.specs.Relation.{Relation}
use Rattle.ent_rel.proofs.Keyed.{len_rows}
use Rattle.ent_rel.proofs.table.Table.len.Goals as goal

pub returns-clause-len : goal.returns-clause-len
returns-clause-len c = c.len.ensures ∙ sym
    (len_rows c.self.inside.kinds.items c.self.inside.keys c.self.invariant.fitting)
    ∙ ap (λ (t : Relation). set.len t.rows) c.self.view_is
