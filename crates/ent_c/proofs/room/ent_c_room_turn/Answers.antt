use Rattle.std.proofs.Common.{◌∙◌, ℤ, Some, ap, sym}
use Rattle.ent_room.specs.Room.{Room}
use Rattle.ent_c.specs.Rooms.{IsKept, TurnsIn}
use Rattle.ent_c.proofs.Rooms.{of_room, turned}
use Rattle.ent_c.proofs.room.ent_c_room_turn.Goals as goal

pub returns : goal.returns
returns c =
    let held = c.in-Some.ensures.taken ∙ ap Some (sym c.deref_mut.ensures.value) in
    let bytes = c.args.drained.now in
    let refusal = c.tell_of.new.refusal in let told = c.tell_of.new.told in
    let status = c.tell_of.result in
    of_room (IsKept c.args.refusal.now refusal c.args.told.now told)
    (λ (status : ℤ) (old new : Room). TurnsIn bytes old new refusal told status)
    status c.tell_of.type_inv held c.put.ensures
    (turned c.turn-turned.result bytes c.deref_mut.result.now c.turn-turned.new.room refusal told status
    c.turn-turned.ensures.ok c.turn-turned.ensures.err c.turn-turned.ensures.refused
    c.tell_of.ensures.ok c.tell_of.ensures.no_fault c.tell_of.ensures.refused c.tell_of.ensures.told)
