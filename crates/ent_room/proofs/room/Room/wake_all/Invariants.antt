use Rattle.ent_room.specs.Acts.{OnlyShifts}
use Rattle.ent_room.proofs.room.Room.wake_all.Given as goal

abbrev pub invariant-loop-ticket : goal.invariant-loop-ticket
invariant-loop-ticket l = OnlyShifts l.fn.self l.self
