use Rattle.ent_protocol.proofs.Numbering.{reached_numbered}
use Rattle.ent_protocol.proofs.law.commits_are_numbered.Goals as goal

pub returns : goal.returns
returns c start forms s reached = reached_numbered forms s reached
