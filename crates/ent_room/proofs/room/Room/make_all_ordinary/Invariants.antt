use Rattle.ent_admission.specs.Admission.{IsAtRest}
use Rattle.ent_room.specs.Acts.{Advances}
use Rattle.ent_room.proofs.room.Room.make_all_ordinary.Given as goal

abbrev pub invariant-runs : goal.invariant-runs
invariant-runs l = record { advances : Advances l.fn.self l.self; at_rest : IsAtRest l.self.admission }
