use Rattle.ent_page.proofs.Cells.{fronts}
use Rattle.ent_page.proofs.laws.first_values_are_fronts.Goals as goal

pub returns : goal.returns
returns c = fronts
