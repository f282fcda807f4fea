use Rattle.std.proofs.Common.{◌-◌, ◌^◌}
use Rattle.ent_room.specs.Acts.{OnlyShifts}
use Rattle.ent_room.proofs.room.Room.further.Given as goal

abbrev pub decreases-resting : goal.decreases-resting
decreases-resting l = 2 ^ 64 - l.from

abbrev pub invariant-resting : goal.invariant-resting
invariant-resting l = OnlyShifts l.fn.self l.self
