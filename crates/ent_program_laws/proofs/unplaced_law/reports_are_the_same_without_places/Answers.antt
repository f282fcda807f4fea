use Rattle.ent_program_laws.proofs.Reports.{report_same}
use Rattle.ent_program_laws.proofs.unplaced_law.reports_are_the_same_without_places.Goals as goal

pub returns : goal.returns
returns c = report_same c.places_do_not_show.ensures
