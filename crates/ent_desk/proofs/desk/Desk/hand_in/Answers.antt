use Rattle.std.proofs.Common.{ap, is_some, refl}
use Rattle.ent_desk.proofs.Keeping.{none_on}
use Rattle.ent_desk.proofs.Lent.{takes_none}
use Rattle.ent_desk.proofs.desk.Desk.hand_in.Goals as goal

pub returns-in-None-clause-ok : goal.returns-in-None-clause-ok
returns-in-None-clause-ok g c =
    takes_none c.args.self.now c.args.done (c.index_of.ensures.none (ap is_some c.in-None.is))

pub returns-in-None-clause-events : goal.returns-in-None-clause-events
returns-in-None-clause-events g c = none_on c.args.self.now c.args.self.now refl
