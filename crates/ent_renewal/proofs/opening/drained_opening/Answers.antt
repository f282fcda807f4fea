use Rattle.std.proofs.lemmas.Result.{IfOk-weaker}
use Rattle.ent_tree.specs.declared.declaration.Opening.{Opening}
use Rattle.ent_protocol.specs.Reached.{opened}
use Rattle.ent_renewal.specs.Renewal.{GoesOn, IsRenewed, drained}
use Rattle.ent_renewal.proofs.Onward.{goes_on}
use Rattle.ent_renewal.proofs.opening.drained_opening.Goals as goal

pub opening_over-requires-clause-holds : goal.opening_over-requires-clause-holds
opening_over-requires-clause-holds g c =
    c.drained_tables_are_held.ensures c.args.opening.now.tables c.args.names.now
    (g.T.TablesByName.database c.args.tables.now) c.requires.holds

pub returns-clause-goes_on : goal.returns-clause-goes_on
returns-clause-goes_on g c =
    let declared = c.args.opening.now.tables in
    let database = drained c.args.names.now (g.T.TablesByName.database c.args.tables.now) in
    IfOk-weaker c.opening_over.result
    (λ renewed. IsRenewed declared database renewed)
    (λ renewed. GoesOn declared database (opened renewed))
    (λ (renewed : Opening) is.
    goes_on declared database renewed
    (c.drained_tables_are_held.ensures declared c.args.names.now (g.T.TablesByName.database c.args.tables.now)
    c.requires.holds) is)
    c.opening_over.ensures.ok
