use Rattle.ent_waiting.proofs.Reached.{has_groups, reached_kept}
use Rattle.ent_waiting.proofs.store_law.tables_are_those_after_groups.Goals as goal

pub returns : goal.returns
returns g c =
    record {
      groups = λ changed tables world reached.
          has_groups changed tables world (reached_kept changed tables world reached);
      ended = λ changed tables world reached. (reached_kept changed tables world reached).sound.groups.ended;
    }
