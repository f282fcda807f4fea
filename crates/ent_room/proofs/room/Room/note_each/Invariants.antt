use Rattle.ent_room.specs.Acts.{OnlyShifts}
use Rattle.ent_room.proofs.room.Room.note_each.Given as goal

abbrev pub invariant-loop-number : goal.invariant-loop-number
invariant-loop-number l = OnlyShifts l.fn.self l.self
