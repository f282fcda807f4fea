use Rattle.ent_waiting.proofs.Reached.{stands_on, reached_kept}
use Rattle.ent_waiting.proofs.store_law.memory_stands_on_the_store.Goals as goal

pub returns : goal.returns
returns g c changed tables world own reached =
    stands_on changed tables world (reached_kept changed tables world reached) own
