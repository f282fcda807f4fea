use Rattle.ent_text.proofs.Found.{found_are_tokens, fault_is_found}
use Rattle.ent_text.proofs.OneReading.{tokens_are_read, fault_is_read}
use Rattle.ent_text.proofs.laws.reader_is_exact.Goals as goal

pub returns-clause-tokens : goal.returns-clause-tokens
returns-clause-tokens c = λ text tokens. (found_are_tokens text tokens, tokens_are_read text tokens)

pub returns-clause-fault : goal.returns-clause-fault
returns-clause-fault c = λ text fault. (fault_is_found text fault, fault_is_read text fault)
