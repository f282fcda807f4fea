use Rattle.std.proofs.Common.{List, ap, ◌∙◌}
use Rattle.ent_tree.specs.declared.declaration.Create.{Create}
use Rattle.ent_renewal.specs.Rows.{opening_rows}
use Rattle.ent_renewal.proofs.Formed.{renewed}
use Rattle.ent_renewal.proofs.opening.opening_over.Goals as goal

pub returns-clause-ok : goal.returns-clause-ok
returns-clause-ok g c =
    let database = g.T.TablesByName.database c.args.tables.now in
    renewed c.args.declared.now database _ c.requires.formed c.requires.holds c.in_ok-copy.ensures
    (c.in_ok-opening_rows.ensures
    ∙ ap (λ (declared : List Create). opening_rows declared database) (c.as_slice-2.ensures ∙ c.deref-2.ensures))
