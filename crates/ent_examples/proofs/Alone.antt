-- A job that is lent alone is taken, and none is left.
use Rattle.std.proofs.Common.{[], ◌∷◌, refl}
use Rattle.ent_protocol.specs.Finish.{IsTaken}
use Rattle.ent_protocol.specs.Job.{Job}

pub alone : (job : Job) → IsTaken job (job ∷ []) []
alone job = record { before = []; behind = []; is_there = refl; others = refl }
