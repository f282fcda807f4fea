use Rattle.ent_protocol.specs.State.{members}
use Rattle.ent_lists.specs.Elements.{contains_in}
use Rattle.ent_protocol_laws.proofs.LeaveTogether.{all_together}
use Rattle.ent_protocol_laws.proofs.steps_law.groups_leave_together.Goals as goal

pub returns : goal.returns
returns g c forms s event reply new one other reached step at bt =
    all_together forms s event reply new one other (c.members_stand_by_number.ensures forms s reached)
    (c.reached_states_are_tidy.ensures.tidy forms s reached) step (contains_in (members s) one at)
    (contains_in (members s) other bt)
