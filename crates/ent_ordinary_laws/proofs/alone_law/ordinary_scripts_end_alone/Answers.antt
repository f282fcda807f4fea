use Rattle.ent_ordinary_laws.proofs.Going.{has_ended}
use Rattle.ent_ordinary_laws.proofs.alone_law.ordinary_scripts_end_alone.Goals as goal

pub returns-clause-ended : goal.returns-clause-ended
returns-clause-ended g c forms count s last one reached no_run waits ordinary led kept over tried =
    (has_ended forms (c.steps_go_on.ensures forms) count s last one
    (c.reached_states_are_tidy.ensures.tidy forms s reached) no_run waits ordinary led kept over tried).ended

pub returns-clause-none_waits : goal.returns-clause-none_waits
returns-clause-none_waits g c forms count s last one reached no_run waits ordinary led kept over tried =
    (has_ended forms (c.steps_go_on.ensures forms) count s last one
    (c.reached_states_are_tidy.ensures.tidy forms s reached) no_run waits ordinary led kept over tried).none_waits
