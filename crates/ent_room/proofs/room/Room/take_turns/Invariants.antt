use Rattle.ent_admission.specs.Admission.{IsAtRest}
use Rattle.ent_room.specs.Acts.{Advances}
use Rattle.ent_room.proofs.room.Room.take_turns.Given as goal

abbrev pub invariant-turns : goal.invariant-turns
invariant-turns l = record { advances : Advances l.fn.self l.self; at_rest : IsAtRest l.self.admission }
