use Rattle.std.proofs.Common.{◌≡◌, map, take}
use Rattle.ent_plan.specs.Plan.{slot_value}
use Rattle.ent_join.proofs.choice.valuation.Given as goal

abbrev pub invariant-loop-slot : goal.invariant-loop-slot
invariant-loop-slot l = l.valuation ≡ map (slot_value l.values) (take l.slot-index l.slots)
