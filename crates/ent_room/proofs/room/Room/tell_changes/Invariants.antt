use Rattle.ent_room.specs.Acts.{OnlyShifts}
use Rattle.ent_room.proofs.room.Room.tell_changes.Given as goal

abbrev pub invariant-visits : goal.invariant-visits
invariant-visits l = OnlyShifts l.fn.self l.self
