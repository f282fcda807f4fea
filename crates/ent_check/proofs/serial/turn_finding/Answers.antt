use Rattle.std.proofs.Common.{◌+◌, subst}
use Rattle.std.specs.List.{AllByRecursion}
use Rattle.ent_check.specs.Alone.{IsSeatedWhole, account_at}
use Rattle.ent_check.proofs.Turns.{turn_replayed, turn_there}
use Rattle.ent_check.proofs.serial.turn_finding.Goals as goal

pub transaction_finding-requires-clause-seated : goal.transaction_finding-requires-clause-seated
transaction_finding-requires-clause-seated c =
    (subst (AllByRecursion (IsSeatedWhole c.args.groundings.now))
    (turn_there c.args.scripts.now c.args.transactions.now c.args.index c.index-scripts-index.result
    c.index-transactions-index.result c.requires.within c.index-scripts-index.is c.index-transactions-index.is)
    c.requires.seated).0

pub returns-clause-replayed : goal.returns-clause-replayed
returns-clause-replayed c =
    let creates = c.args.declared.now in
    let script = c.index-scripts-index.result in
    let told = c.index-transactions-index.result in
    turn_replayed creates c.args.groundings.now _ (account_at (c.args.index + 1) script told) _ _ _ _ _
    (turn_there c.args.scripts.now c.args.transactions.now c.args.index script told c.requires.within
    c.index-scripts-index.is c.index-transactions-index.is)
    c.transaction_finding.ensures.replayed
