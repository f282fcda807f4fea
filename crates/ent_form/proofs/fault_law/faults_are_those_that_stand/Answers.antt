use Rattle.ent_form.proofs.ScriptStands.{statement_stands, script_stands}
use Rattle.ent_form.proofs.Stands.{opening_stands}
use Rattle.ent_form.proofs.fault_law.faults_are_those_that_stand.Goals as goal

pub returns-clause-opening : goal.returns-clause-opening
returns-clause-opening c = opening_stands

pub returns-clause-statement : goal.returns-clause-statement
returns-clause-statement c = statement_stands

pub returns-clause-script : goal.returns-clause-script
returns-clause-script c = script_stands
