use Rattle.ent_protocol_laws.proofs.Laws.{go_below}
use Rattle.ent_protocol_laws.proofs.bounds_law.progress_uses_up.Goals as goal

pub returns : goal.returns
returns g c forms s event reply new most left reached step progress w =
    go_below forms (record {
      by_number = c.members_stand_by_number.ensures forms;
      once = c.lent_jobs_stand_once.ensures forms;
      goes_on = c.steps_go_on.ensures forms;
    }) c.components_are_classes.ensures s event reply new most left reached step progress w
