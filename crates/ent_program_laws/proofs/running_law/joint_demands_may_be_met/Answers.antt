use Rattle.ent_protocol_laws.specs.GoodAnswers.{state_read_views}
use Rattle.ent_protocol.specs.Reached.{scripts_of}
use Rattle.ent_program_laws.proofs.Histories.{of_state}
use Rattle.ent_program_laws.proofs.Partners.{met_among}
use Rattle.ent_program_laws.proofs.running_law.joint_demands_may_be_met.Goals as goal

pub returns : goal.returns
returns c s joint member script demand no_fault reached has is_member of_list demands =
    let good = c.resolved_answers_are_good.ensures s no_fault reached in
    met_among s.opening.tables (state_read_views s good.0) (scripts_of s) (of_state s good.0) joint.members
    member script
    demand (good.1 joint has) is_member of_list demands
