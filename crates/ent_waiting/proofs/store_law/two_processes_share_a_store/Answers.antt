use Rattle.ent_waiting.proofs.Witness.{runs_through}
use Rattle.ent_waiting.proofs.store_law.two_processes_share_a_store.Goals as goal

pub returns : goal.returns
returns g c = runs_through
