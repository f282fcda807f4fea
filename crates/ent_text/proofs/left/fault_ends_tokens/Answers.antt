use Rattle.ent_text.proofs.FirstFault.{all_left, ends_in_fault}
use Rattle.ent_text.proofs.left.fault_ends_tokens.Goals as goal

pub returns-clause-faultless : goal.returns-clause-faultless
returns-clause-faultless c = all_left

pub returns-clause-faulty : goal.returns-clause-faulty
returns-clause-faulty c = ends_in_fault
