use Rattle.std.proofs.Common.{◌≡◌, ◌∙◌, Some, ap, pos, refl, subst, sym}
use Rattle.ent_room.specs.Room.{Room}
use Rattle.ent_room.specs.State.{StandsAs}
use Rattle.ent_c.specs.Looks.{TellsState}
use Rattle.ent_c.proofs.Rooms.{in_room}
use Rattle.ent_c.proofs.room_look.ent_c_room_state.Goals as goal

pub returns : goal.returns
returns c =
    let same = ap Some (sym c.deref.ensures) in let seen = c.state.result in
    let stands = subst (λ ticket. StandsAs c.deref.result.now.admission ticket seen) c.new.ensures c.state.ensures in
    in_room (c.of.result ≡ c.args.state.now) (λ (room : Room). TellsState c.args.ticket room c.of.result
    (pos 0)) (pos 0)
    (c.in-Some.ensures.taken ∙ same) (c.put.ensures ∙ same) (seen, stands, c.of.ensures, refl)
