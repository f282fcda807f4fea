use Rattle.ent_waiting.proofs.Reached.{late, tells, reached_kept}
use Rattle.ent_waiting.proofs.store_law.versions_tell_what_went_through.Goals as goal

pub returns : goal.returns
returns g c =
    record {
      through = λ changed tables world claim own reached.
          late changed tables world (reached_kept changed tables world reached) claim own;
      now = λ changed tables world own reached.
          tells changed tables world (reached_kept changed tables world reached) own;
    }
