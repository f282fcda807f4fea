use Rattle.ent_examples.proofs.Rows.{from_row, to_row}
use Rattle.ent_examples.proofs.event_law.begin_goes_by_rows.Goals as goal

pub returns : goal.returns
returns g c s tx reply new = (to_row s tx reply new, from_row s tx reply new)
