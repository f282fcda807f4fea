use Rattle.ent_program_laws.proofs.Groups.{met_in_group}
use Rattle.ent_program_laws.proofs.running_law.passed_demands_may_be_met.Goals as goal

pub returns : goal.returns
returns c s member script place demand no_fault reached passed of_list demands =
    met_in_group s (c.resolved_answers_are_good.ensures s no_fault reached)
    (c.resolved_answers_are_good_in_groups.ensures.one_group s no_fault reached)
    (λ tx place asked. c.resolved_entangled_statements_are_answered_once.ensures.once s tx place no_fault reached asked)
    member script place demand passed of_list demands
