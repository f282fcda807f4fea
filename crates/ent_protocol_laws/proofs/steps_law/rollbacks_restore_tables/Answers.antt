use Rattle.ent_protocol_laws.proofs.Tables.{all_noted, kept, restored}
use Rattle.ent_protocol_laws.proofs.steps_law.rollbacks_restore_tables.Goals as goal

pub returns-clause-restored : goal.returns-clause-restored
returns-clause-restored g c = restored

pub returns-clause-same : goal.returns-clause-same
returns-clause-same g c = kept

pub returns-clause-noted : goal.returns-clause-noted
returns-clause-noted g c = all_noted
