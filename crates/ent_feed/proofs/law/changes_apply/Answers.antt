use Rattle.ent_feed.proofs.Databases.{database_after}
use Rattle.ent_feed.proofs.law.changes_apply.Goals as goal

pub returns : goal.returns
returns c = database_after
