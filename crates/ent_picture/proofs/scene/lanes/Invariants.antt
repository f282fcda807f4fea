use Rattle.std.proofs.Common.{◌≡◌, take}
use Rattle.ent_picture.specs.Members.{members_of_lanes}
use Rattle.ent_picture.proofs.scene.lanes.Given as goal

abbrev pub invariant-loop-tx : goal.invariant-loop-tx
invariant-loop-tx l = members_of_lanes l.lanes.items ≡ take l.tx-index l.members
