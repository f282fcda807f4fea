use Rattle.ent_prepare.proofs.First.{of_first}
use Rattle.ent_prepare.proofs.given_law.first_fault_tells_its_row.Goals as goal

pub returns : goal.returns
returns c = λ tables rows fault. of_first tables fault rows
