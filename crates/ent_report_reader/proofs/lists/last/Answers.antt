use Rattle.std.proofs.Common.{◌∙◌}
use Rattle.ent_report_reader.proofs.Ends.{last_of_get}
use Rattle.ent_report_reader.proofs.lists.last.Goals as goal

pub returns : goal.returns
returns g c = c.last.ensures.value ∙ last_of_get c.args.elements.now
