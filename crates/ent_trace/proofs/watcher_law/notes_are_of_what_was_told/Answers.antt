use Rattle.ent_trace.proofs.Told.{all_noted, all_noted_from_nothing}
use Rattle.ent_trace.proofs.watcher_law.notes_are_of_what_was_told.Goals as goal

pub returns-clause-onward : goal.returns-clause-onward
returns-clause-onward c = all_noted

pub returns-clause-from_nothing : goal.returns-clause-from_nothing
returns-clause-from_nothing c = all_noted_from_nothing
