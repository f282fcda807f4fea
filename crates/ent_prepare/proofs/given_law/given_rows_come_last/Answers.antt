use Rattle.ent_prepare.proofs.Joined.{come_last}
use Rattle.ent_prepare.proofs.given_law.given_rows_come_last.Goals as goal

pub returns : goal.returns
returns c = come_last
