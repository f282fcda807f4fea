use Rattle.ent_protocol_laws.proofs.Laws.{start_within}
use Rattle.ent_protocol_laws.proofs.bounds_law.runs_are_within.Goals as goal

pub returns : goal.returns
returns c = start_within
