use Rattle.ent_room.specs.Acts.{Advances}
use Rattle.ent_admission.specs.Admission.{IsAtRest}
use Rattle.ent_room.proofs.room.Room.plan.Given as goal

abbrev pub invariant-tries : goal.invariant-tries
invariant-tries l = record { advances : Advances l.fn.self l.self; at_rest : IsAtRest l.self.admission }
