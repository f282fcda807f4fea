use Rattle.ent_feed.proofs.Told.{told_journal, whole_journal}
use Rattle.ent_feed.proofs.law.groups_give_the_journal.Goals as goal

pub returns-clause-since : goal.returns-clause-since
returns-clause-since c = told_journal

pub returns-clause-all : goal.returns-clause-all
returns-clause-all c = whole_journal
