use Rattle.ent_protocol_laws.proofs.Bounded.{few_progress}
use Rattle.ent_protocol_laws.proofs.bounds_law.progress_is_bounded.Goals as goal

pub returns : goal.returns
returns g c forms s steps last reached plays idle =
    few_progress forms (record {
      stays = c.steps_stay_within.ensures forms;
      below = c.progress_uses_up.ensures forms;
      goes_on = c.steps_go_on.ensures forms;
    }) steps s last _ _ reached plays idle (c.runs_are_within.ensures s)
