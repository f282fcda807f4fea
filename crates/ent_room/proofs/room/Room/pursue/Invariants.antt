use Rattle.ent_room.specs.Acts.{OnlyShifts}
use Rattle.ent_room.proofs.room.Room.pursue.Given as goal

abbrev pub invariant-moves : goal.invariant-moves
invariant-moves l = OnlyShifts l.fn.self l.self
