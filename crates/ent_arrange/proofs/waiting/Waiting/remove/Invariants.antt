use Rattle.std.proofs.Common.{◌≤◌}
use Rattle.ent_arrange.specs.Doubts.{work_of}
use Rattle.ent_arrange.proofs.waiting.Waiting.remove.Given as goal

abbrev pub invariant-loop-offer : goal.invariant-loop-offer
invariant-loop-offer l = work_of l.self.doubts ≤ work_of l.fn.self.doubts
