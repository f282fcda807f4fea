use Rattle.ent_check_report.proofs.FoundThings.{found_thing_told}
use Rattle.ent_check_report.proofs.law.found_things_are_told.Goals as goal

pub returns : goal.returns
returns c = found_thing_told
