use Rattle.std.proofs.Common.{◌≡◌, ◌∙◌, ℤ, Some, ap, sym}
use Rattle.ent_room.specs.Room.{Room}
use Rattle.ent_c.specs.Rooms.{WithdrawsFrom}
use Rattle.ent_c.proofs.Rooms.{of_room}
use Rattle.ent_c.proofs.room.ent_c_room_withdraw.Goals as goal

pub returns : goal.returns
returns c =
    let held = c.in-Some.ensures.taken ∙ ap Some (sym c.deref_mut.ensures.value) in
    let refusal = c.withdraw_from-status.new.refusal in
    of_room (refusal ≡ c.args.refusal.now)
    (λ (status : ℤ) (old new : Room). WithdrawsFrom c.args.ticket old new refusal status)
    c.withdraw_from-status.result c.withdraw_from-status.type_inv held c.put.ensures c.withdraw_from-status.ensures
