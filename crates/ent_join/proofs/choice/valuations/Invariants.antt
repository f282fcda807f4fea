use Rattle.std.proofs.Common.{◌≡◌, map, take}
use Rattle.ent_plan.specs.Plan.{slot_value}
use Rattle.ent_join.proofs.choice.valuations.Given as goal

abbrev pub invariant-loop-some : goal.invariant-loop-some
invariant-loop-some l = l.all ≡ map (map (slot_value l.values)) (take l.some-index l.slots)
