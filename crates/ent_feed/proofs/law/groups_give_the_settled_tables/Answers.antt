use Rattle.ent_feed.proofs.Told.{all_applied, each_applied}
use Rattle.ent_feed.proofs.law.groups_give_the_settled_tables.Goals as goal

pub returns-clause-all : goal.returns-clause-all
returns-clause-all c = all_applied

pub returns-clause-each : goal.returns-clause-each
returns-clause-each c = each_applied
