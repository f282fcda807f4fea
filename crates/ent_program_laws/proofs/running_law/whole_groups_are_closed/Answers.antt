use Rattle.ent_program_laws.proofs.Groups.{group_closed}
use Rattle.ent_program_laws.proofs.running_law.whole_groups_are_closed.Goals as goal

pub returns : goal.returns
returns c s group no_fault reached all =
    group_closed s (c.resolved_answers_are_good.ensures s no_fault reached)
    (c.resolved_answers_are_good_in_groups.ensures.one_group s no_fault reached)
    (λ tx place asked. c.resolved_entangled_statements_are_answered_once.ensures.once s tx place no_fault reached asked)
    group all
