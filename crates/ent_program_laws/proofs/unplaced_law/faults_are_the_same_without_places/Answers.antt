use Rattle.ent_program_laws.proofs.OpeningFaults.{faultless_opening, opening_bare}
use Rattle.ent_program_laws.proofs.ScriptFaults.{faultless_script, script_bare}
use Rattle.ent_program_laws.proofs.unplaced_law.faults_are_the_same_without_places.Goals as goal

pub returns-clause-script : goal.returns-clause-script
returns-clause-script c = script_bare

pub returns-clause-opening : goal.returns-clause-opening
returns-clause-opening c = opening_bare

pub returns-clause-faultless_script : goal.returns-clause-faultless_script
returns-clause-faultless_script c = faultless_script

pub returns-clause-faultless_opening : goal.returns-clause-faultless_opening
returns-clause-faultless_opening c = faultless_opening
