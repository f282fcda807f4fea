use Rattle.ent_run.proofs.Lookups.{nobody_by_number}
use Rattle.ent_run.proofs.RunWith.{nobody_with}
use Rattle.ent_run.proofs.run.Run.new.Goals as goal

pub invariant_of-result : goal.invariant_of-result
invariant_of-result c =
    rw (c.new.ensures.prepared, c.new.ensures.active, c.new-2.ensures, c.new-3.ensures) (nobody_with, nobody_by_number)
