use Rattle.ent_waiting.proofs.Onward.{led_ticket}
use Rattle.ent_waiting.proofs.Reached.{stands_once, led_kept, reached_kept}
use Rattle.ent_waiting.proofs.store_law.told_tickets_stand.Goals as goal

pub returns : goal.returns
returns g c =
    record {
      stands = λ changed tables world waiter reached.
          stands_once changed tables world (reached_kept changed tables world reached) waiter;
      stays = λ changed tables world later waiter reached at leads.
          stands_once changed tables later
          (led_kept changed tables world later leads (reached_kept changed tables world reached)) waiter
          (led_ticket changed world later leads waiter at);
    }
