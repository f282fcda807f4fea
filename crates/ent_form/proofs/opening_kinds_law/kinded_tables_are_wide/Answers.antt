use Rattle.ent_form.proofs.Opened.{kinded_wide}
use Rattle.ent_form.proofs.opening_kinds_law.kinded_tables_are_wide.Goals as goal

pub returns : goal.returns
returns c = kinded_wide
