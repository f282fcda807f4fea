use Rattle.ent_feed.proofs.Changes.{change_applies, listed_alone, none_changed}
use Rattle.ent_feed.proofs.law.net_changes_apply.Goals as goal

pub returns-clause-applies : goal.returns-clause-applies
returns-clause-applies c = change_applies

pub returns-clause-alone : goal.returns-clause-alone
returns-clause-alone c = listed_alone

pub returns-clause-nothing : goal.returns-clause-nothing
returns-clause-nothing c = none_changed
