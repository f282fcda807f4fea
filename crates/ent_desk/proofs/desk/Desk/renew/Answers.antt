use Rattle.std.proofs.Common.{subst}
use Rattle.ent_desk.specs.Accounted.{IsAccounted}
use Rattle.ent_desk.proofs.desk.Desk.renew.Goals as goal

pub go_on-requires-clause-accounted : goal.go_on-requires-clause-accounted
go_on-requires-clause-accounted g c κs within =
    subst (λ desk. IsAccounted desk.core desk.count c.args.sessions.now) c.self.view_is
    (c.hold_all.ensures c.if-not-hold_all.false)
