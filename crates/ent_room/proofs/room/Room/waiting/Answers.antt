use Rattle.std.proofs.Common.{◌∙◌, false, refl, sym, ap}
use Rattle.ent_admission.specs.Admission.{is_in_batch}
use Rattle.ent_room.specs.Room.{Room}
use Rattle.ent_room.specs.State.{Waits}
use Rattle.ent_room.proofs.room.Room.waiting.Goals as goal

pub returns-in_default : goal.returns-in_default
returns-in_default c =
    let batch = ap (λ (r : Room). is_in_batch r.admission c.args.ticket) (sym c.self.view_is)
    ∙ sym c.is_in_batch.ensures ∙ c.if-is_in_batch.false in
    let waits : Waits c.args.self.now.admission c.args.ticket false =
    record { waiter = c.args.waiter.now; waits = c.requires.waits; batch = batch } in
    (waits, refl)
