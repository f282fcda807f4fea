use Rattle.ent_report_laws.proofs.OfJoints.{joints_are_told}
use Rattle.ent_report_laws.proofs.Sound.{told_sound}
use Rattle.ent_report_laws.proofs.law.told_joints_can_be_told.Goals as goal

pub returns : goal.returns
returns c text history tells = joints_are_told text history (told_sound text history tells) tells
