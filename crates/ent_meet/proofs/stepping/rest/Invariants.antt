use Rattle.std.proofs.Common.{◌+◌, length}
use Rattle.ent_admission.specs.Acts.{Advances}
use Rattle.ent_meet.specs.Epochs.{AreOfBooks}
use Rattle.ent_meet.proofs.stepping.rest.Given as goal

-- the acts so far, and the epochs that ended
abbrev pub invariant-steps : goal.invariant-steps
invariant-steps l = record {
  advances : Advances l.fn.room.admission l.room.admission;
  books : AreOfBooks 1 l.epochs.items (length l.epochs.items + 1);
}
