use Rattle.ent_print.proofs.Places.{script_hides}
use Rattle.ent_print.proofs.laws.places_do_not_show.Goals as goal

pub returns : goal.returns
returns c = script_hides
