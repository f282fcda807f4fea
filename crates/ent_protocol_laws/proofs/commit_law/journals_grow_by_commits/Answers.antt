use Rattle.std.proofs.Common.{refl}
use Rattle.ent_protocol.specs.Event.{Committed}
use Rattle.ent_protocol_laws.proofs.Journal.{all_grow, grows, some_entries}
use Rattle.ent_protocol_laws.proofs.commit_law.journals_grow_by_commits.Goals as goal

pub returns-clause-one : goal.returns-clause-one
returns-clause-one g c forms s event reply new step = grows forms s event new reply step

pub returns-clause-some : goal.returns-clause-some
returns-clause-some g c forms s event entries new step = some_entries forms s event new (Committed entries) step refl

pub returns-clause-all : goal.returns-clause-all
returns-clause-all g c forms s last told played = all_grow forms s last told played
