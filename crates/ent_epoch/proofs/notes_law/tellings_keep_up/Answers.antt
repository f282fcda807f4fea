use Rattle.ent_epoch.proofs.Keeping.{heard, keeps_up_at, only_notes, unheard}
use Rattle.ent_epoch.proofs.notes_law.tellings_keep_up.Goals as goal

pub returns-clause-begun : goal.returns-clause-begun
returns-clause-begun c = keeps_up_at

pub returns-clause-unheard : goal.returns-clause-unheard
returns-clause-unheard c = unheard

pub returns-clause-heard : goal.returns-clause-heard
returns-clause-heard c = heard

pub returns-clause-notes : goal.returns-clause-notes
returns-clause-notes c = only_notes
