use Rattle.std.proofs.Common.{◌≤◌}
use Rattle.ent_arrange.specs.Doubts.{work_of}
use Rattle.ent_arrange.proofs.doubts.Doubts.add_demanders.Given as goal

abbrev pub decreases-loop-self : goal.decreases-loop-self
decreases-loop-self l = l.self.looks

abbrev pub invariant-loop-self : goal.invariant-loop-self
invariant-loop-self l = work_of l.self ≤ work_of l.fn.self
