use Rattle.std.proofs.Common.{subst}
use Rattle.ent_desk.specs.Accounted.{IsAccounted}
use Rattle.ent_desk.proofs.desk.Desk.close.Goals as goal

pub close_accounted-requires-clause-accounted : goal.close_accounted-requires-clause-accounted
close_accounted-requires-clause-accounted g c κs within =
    subst (λ desk. IsAccounted desk.core desk.count c.args.sessions.now) c.self.view_is
    (c.hold_all.ensures c.if-not-hold_all.false)
