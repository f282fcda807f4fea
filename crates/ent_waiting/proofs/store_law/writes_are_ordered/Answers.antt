use Rattle.ent_waiting.proofs.Reached.{ordered, went_through, no_two, reached_kept}
use Rattle.ent_waiting.proofs.store_law.writes_are_ordered.Goals as goal

pub returns : goal.returns
returns g c =
    record {
      ordered = λ changed tables world reached. ordered changed tables world
          (reached_kept changed tables world reached);
      acknowledged = λ changed tables world known reached.
          went_through changed tables world (reached_kept changed tables world reached) known;
      apart = λ changed tables world known other reached.
          no_two changed tables world (reached_kept changed tables world reached) known other;
    }
