use Rattle.std.proofs.Common.{subst}
use Rattle.ent_core.specs.Passed.{resolved_forms}
use Rattle.ent_desk.specs.Advance.{IsDone}
use Rattle.ent_desk.specs.Seen.{DeskState}
use Rattle.ent_desk.proofs.Advancing.{is_done}
use Rattle.ent_desk.proofs.desk.Desk.rest.Goals as goal

pub returns-then-can_close : goal.returns-then-can_close
returns-then-can_close g c =
    let core = c.self.inside.core in
    subst (λ (d : DeskState). IsDone d.core) c.self.view_is
    (is_done core c.is_reached.ensures.reached (c.can_close.ensures.0 c.if-can_close.true)
    (c.finished_scripts_have_fates.ensures.book resolved_forms))
