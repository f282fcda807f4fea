use Rattle.ent_sql.proofs.Exact.{read_is_said, said_is_read, one_is_said, text_fault_is, text_fault_first}
use Rattle.ent_sql.proofs.Exact.{unexpected_is, unexpected_so, too_many_is, too_many_so}
use Rattle.ent_sql.proofs.input.reading_is_exact.Goals as goal

pub returns-clause-input : goal.returns-clause-input
returns-clause-input c text tree = (read_is_said text tree, said_is_read text tree)

pub returns-clause-single : goal.returns-clause-single
returns-clause-single c = one_is_said

pub returns-clause-token_fault : goal.returns-clause-token_fault
returns-clause-token_fault c text fault = (text_fault_is text fault, text_fault_first text fault)

pub returns-clause-unexpected : goal.returns-clause-unexpected
returns-clause-unexpected c text place = (unexpected_is text place, unexpected_so text place)

pub returns-clause-too_many : goal.returns-clause-too_many
returns-clause-too_many c text place = (too_many_is text place, too_many_so text place)
