use Rattle.ent_text.proofs.Found.{some_reading}
use Rattle.ent_text.proofs.OneReading.{one_list, one_fault, never_both}
use Rattle.ent_text.proofs.laws.one_reading.Goals as goal

pub returns-clause-some : goal.returns-clause-some
returns-clause-some c = some_reading

pub returns-clause-tokens : goal.returns-clause-tokens
returns-clause-tokens c = one_list

pub returns-clause-fault : goal.returns-clause-fault
returns-clause-fault c = one_fault

pub returns-clause-either : goal.returns-clause-either
returns-clause-either c = never_both
