use Rattle.std.proofs.Common.{◌∙◌, ap, map}
use Rattle.std.specs.Arc.{arc_value}
use Rattle.ent_tables.specs.Stored.{settled, stored_of}
use Rattle.ent_tables.proofs.Leaving.{settled_of_tables, settles, settles_with}
use Rattle.ent_tables.proofs.stored.StoredTables.settle.Goals as goal

pub invariant_of-self : goal.invariant_of-self
invariant_of-self c =
    rw c.forget.ensures
    (settled_of_tables c.args.gone.now (map arc_value c.self.inside.tables.items) c.self.inside.log c.self.invariant)

pub returns-clause-numbers : goal.returns-clause-numbers
returns-clause-numbers c =
    let tables = map arc_value c.self.inside.tables.items in
    ap (stored_of tables) c.forget.ensures
    ∙ settles c.args.gone.now tables c.self.inside.log ∙ ap (settled c.args.gone.now) c.self.view_is

pub returns-clause-members : goal.returns-clause-members
returns-clause-members c = λ members is.
    let tables = map arc_value c.self.inside.tables.items in
    ap (stored_of tables) c.forget.ensures
    ∙ settles c.args.gone.now tables c.self.inside.log ∙ ap (settled c.args.gone.now) c.self.view_is
    ∙ settles_with c.args.gone.now members c.args.self.now is
