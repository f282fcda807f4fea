use Rattle.std.proofs.Common.{subst}
use Rattle.ent_rel.specs.Relation.{Relation, HaveKinds}
use Rattle.ent_rel.specs.Kept.{listed_rows}
use Rattle.ent_rel.proofs.Lists.{have_kinds}
use Rattle.ent_rel.proofs.Keyed.{listed_fit}
use Rattle.ent_rel.proofs.table.Table.kinds.Goals as goal

pub returns-clause-rows : goal.returns-clause-rows
returns-clause-rows c =
    let P : Relation → Type 0 = λ t. HaveKinds t.kinds t.rows in
    subst P c.self.view_is (have_kinds c.self.inside.kinds.items
    (listed_rows c.self.inside.kinds.items c.self.inside.keys)
    (listed_fit c.self.inside.kinds.items c.self.inside.keys c.self.invariant.fitting))
