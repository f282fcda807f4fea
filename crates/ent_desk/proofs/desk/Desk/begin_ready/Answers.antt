use Rattle.std.proofs.Common.{refl, subst}
use Rattle.ent_core.specs.Begin.{begin_refusal_seen}
use Rattle.ent_core.specs.Passed.{resolved_forms}
use Rattle.ent_protocol.specs.Quiet.{CanMove}
use Rattle.ent_desk.specs.Seen.{DeskState}
use Rattle.ent_desk.proofs.Standstill.{cannot_move, refusal_idle}
use Rattle.ent_desk.proofs.desk.Desk.begin_ready.Goals as goal

pub returns-in-Err-clause-ok : goal.returns-in-Err-clause-ok
returns-in-Err-clause-ok g c =
    let core = c.self.inside.core in
    let why = c.in-Err._why in (
      refl,
      subst (λ (d : DeskState). ¬ CanMove d.core c.args.tx) c.self.view_is
          (cannot_move core (c.transactions_stand_once.ensures.once resolved_forms core c.is_reached.ensures.reached)
          (c.members_stand_by_number.ensures resolved_forms core c.is_reached.ensures.reached) c.args.tx
          (begin_refusal_seen why) core c.in-Err.ensures.refused (refusal_idle why)),
    )
