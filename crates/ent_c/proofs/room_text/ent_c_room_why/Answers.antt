use Rattle.std.proofs.Common.{◌≡◌, ◌∙◌, ◌++◌, ◌∷◌, [], IfOk, List, Some, ap, of_z, subst, sym, to_z, w32, ℕ}
use Rattle.ent_room.specs.Room.{Room}
use Rattle.ent_room.specs.State.{StandsAs}
use Rattle.ent_room.specs.declared.state.State.{State}
use Rattle.ent_room_calls.specs.Why.{why_text}
use Rattle.ent_room_calls.specs.declared.fault.RoomFault.{RoomFault}
use Rattle.ent_room_calls.specs.declared.fault.RoomFault.TheVariants.{Memory}
use Rattle.ent_waiting.specs.WaitingList.{waiter_of}
use Rattle.ent_c.specs.Looks.{HandsRoom}
use Rattle.ent_c.proofs.Rooms.{hands, in_room}
use Rattle.ent_c.proofs.room_text.ent_c_room_why.Goals as goal

-- a line that says how a ticket stands
abbrev IsLine : Room → ℕ → List ℕ → Type 0
IsLine room ticket text =
    (seen : State) × StandsAs room.admission ticket seen
    × (text ≡ why_text (waiter_of room.admission.list ticket) seen ++ 10 ∷ [])

pub returns : goal.returns
returns c =
    let same = ap Some (sym c.deref.ensures) in
    let room = c.deref.result.now in let ticket = c.args.ticket in let line = c.why_line-line in
    let is =
    subst (λ ticket. IfOk line.result (λ text. IsLine room ticket text.items)) c.new.ensures line.ensures.line in
    let buffer = c.hand_out_of_room.new.buffer in let told = c.hand_out_of_room.new.told in
    let status = c.hand_out_of_room.result in
    in_room ((buffer ≡ c.args.buffer.now) × (told ≡ c.args.told.now))
    (λ (room : Room). HandsRoom (IsLine room ticket) (λ (fault : RoomFault). fault ≡ Memory) [] c.args.buffer.now buffer
    told (to_z w32 (of_z w32 status))) (to_z w32 (of_z w32 status))
    (c.in-Some.ensures.taken ∙ same) (c.put.ensures ∙ same)
    (hands line.result (λ text. text.items) (IsLine room ticket) (λ (fault : RoomFault). fault ≡ Memory) []
    c.args.buffer.now buffer told status c.hand_out_of_room.type_inv is line.ensures.refused
    c.hand_out_of_room.ensures.handed c.hand_out_of_room.ensures.refused)
