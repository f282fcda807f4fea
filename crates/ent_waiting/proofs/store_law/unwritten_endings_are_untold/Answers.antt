use Rattle.ent_waiting.proofs.Reached.{is_untold, reached_kept}
use Rattle.ent_waiting.proofs.store_law.unwritten_endings_are_untold.Goals as goal

pub returns : goal.returns
returns g c changed tables world own one reached =
    is_untold changed tables world (reached_kept changed tables world reached) own one
