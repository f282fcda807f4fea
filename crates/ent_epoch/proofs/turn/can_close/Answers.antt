use Rattle.std.proofs.Common.{rules}
use Rattle.ent_semantics.proofs.Numbered.{none_numbered, some_numbered}
use Rattle.ent_epoch.proofs.turn.can_close.Goals as goal

pub returns-in-None : goal.returns-in-None
returns-in-None c =
    let empty = none_numbered c.args.core.now.dormant c.in-None.ensures in
    search rules

pub returns-in-Some : goal.returns-in-Some
returns-in-Some c =
    let filled = some_numbered c.args.core.now.dormant _ c.in-Some.ensures in
    search rules
