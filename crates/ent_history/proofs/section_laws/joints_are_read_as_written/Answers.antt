use Rattle.ent_history.proofs.JointLines.{joint_found, joint_again}
use Rattle.ent_history.proofs.section_laws.joints_are_read_as_written.Goals as goal

pub returns-clause-found : goal.returns-clause-found
returns-clause-found c = joint_found

pub returns-clause-only : goal.returns-clause-only
returns-clause-only c = joint_again
