use Rattle.std.proofs.Common.{◌≡◌, length}
use Rattle.ent_admission.specs.Moves.{Goes}
use Rattle.ent_waiting.specs.WaitingList.{Onward}
use Rattle.ent_admission.proofs.admission.Admission.enter_all.Given as goal

abbrev pub decreases-loop-first : goal.decreases-loop-first
decreases-loop-first l = length l.self.coming.keys

abbrev pub invariant-loop-first : goal.invariant-loop-first
invariant-loop-first l = record {
  goes : Goes l.fn.self l.self;
  opening : l.self.epoch.core.opening ≡ l.fn.self.epoch.core.opening;
  onward : Onward l.fn.self.list l.self.list;
}
