use Rattle.std.proofs.Common.{ℤ, subst, w64}
use Rattle.std.proofs.lemmas.Int.{to_z-of_z}
use Rattle.ent_room.specs.Room.{Room}
use Rattle.ent_room.specs.declared.putting.Stay.{Stay}
use Rattle.ent_c.specs.Rooms.{IsKept, IsMisused, OfRoom, PutsBackIn, bound_in}
use Rattle.ent_room_calls.specs.Stay.{IsStay}
use Rattle.ent_c.proofs.Rooms.{of_stay}
use Rattle.ent_c.proofs.room.ent_c_room_restore.Goals as goal

pub returns-in-Some-clause-put : goal.returns-in-Some-clause-put
returns-in-Some-clause-put c =
    let held = c.args.handle.now.held in let left = c.restore_for.new.handle.held in
    let refusal = c.restore_for.new.refusal in let told = c.restore_for.new.told in
    let Same = IsKept c.args.refusal.now refusal c.args.told.now told in
    let stays = subst (λ number. IsStay number c.in-Some.stay) (to_z-of_z w64 c.args.stay c.ranges.stay)
    c.in-Some.ensures.stay in
    of_stay c.args.stay (λ (status : ℤ). IsMisused held left status Same)
    (λ (status : ℤ) (stay : Stay). OfRoom held left status Same (λ (old new : Room).
    PutsBackIn c.args.ticket c.args.script.now (bound_in c.args.values.now.held) stay c.args.batches old new
    refusal told
    status))
    c.in-Some.stay c.restore_for.result c.restore_for.type_inv stays c.restore_for.ensures.put
