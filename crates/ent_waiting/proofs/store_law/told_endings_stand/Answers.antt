use Rattle.ent_waiting.proofs.Onward.{led_ending}
use Rattle.ent_waiting.proofs.Reached.{has_ending, led_kept, reached_kept}
use Rattle.ent_waiting.proofs.store_law.told_endings_stand.Goals as goal

pub returns : goal.returns
returns g c =
    record {
      stands = λ changed tables world one reached.
          has_ending changed tables world (reached_kept changed tables world reached) one;
      stays = λ changed tables world later one reached at leads.
          has_ending changed tables later
          (led_kept changed tables world later leads (reached_kept changed tables world reached)) one
          (led_ending changed world later leads one at);
    }
