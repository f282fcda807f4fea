use Rattle.ent_report_laws.proofs.OfScripts.{scripts_are_told}
use Rattle.ent_report_laws.proofs.Sound.{told_sound}
use Rattle.ent_report_laws.proofs.law.told_scripts_can_be_told.Goals as goal

pub returns-clause-limit : goal.returns-clause-limit
returns-clause-limit c text history tells = (told_sound text history tells).few

pub returns-clause-each : goal.returns-clause-each
returns-clause-each c = scripts_are_told
