use Rattle.ent_epoch.proofs.NotesTold.{told_noted, told_noted_from_nothing}
use Rattle.ent_epoch.proofs.notes_law.notes_are_of_what_was_told.Goals as goal

pub returns-clause-onward : goal.returns-clause-onward
returns-clause-onward c = told_noted

pub returns-clause-from_nothing : goal.returns-clause-from_nothing
returns-clause-from_nothing c = told_noted_from_nothing
