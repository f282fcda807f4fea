use Rattle.ent_arrange.specs.Doubts.{work_of}
use Rattle.ent_arrange.proofs.waiting.Waiting.part.Given as goal

abbrev pub decreases-loop-ticket : goal.decreases-loop-ticket
decreases-loop-ticket l = work_of l.self.doubts
