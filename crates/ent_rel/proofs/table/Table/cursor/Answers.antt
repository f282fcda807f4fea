use Rattle.std.proofs.Common.{ap, sym, ◌∙◌}
use Rattle.ent_lists.specs.Sets as set
use Rattle.ent_rel.specs.Relation.{Relation}
use Rattle.ent_rel.proofs.Keyed.{all_keys, ascending_rows}
use Rattle.ent_rel.proofs.table.Table.cursor.Goals as goal

pub new-requires : goal.new-requires
new-requires c =
    let kinds = c.self.inside.kinds.items in
    rw (c.deref.ensures.value, c.cursor.ensures) (all_keys kinds c.self.inside.keys c.self.invariant.fitting)

pub returns : goal.returns
returns c =
    let kinds = c.self.inside.kinds.items in
    c.new.ensures ∙ rw (c.deref.ensures.value, c.cursor.ensures) (sym
    (ascending_rows kinds c.self.inside.keys c.self.invariant.fitting))
    ∙ ap (λ (t : Relation). set.ascending t.rows) c.self.view_is
