use Rattle.std.proofs.Common.{◌+◌, ◌-◌, length}
use Rattle.ent_reasons.proofs.observations.extend_to.Given as goal

abbrev pub decreases-loop-kept : goal.decreases-loop-kept
decreases-loop-kept l = l.place + 1 - length l.kept.items
