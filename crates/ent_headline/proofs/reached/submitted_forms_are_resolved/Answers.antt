use Rattle.ent_headline.proofs.Submitted.{submitted_resolved}
use Rattle.ent_headline.proofs.reached.submitted_forms_are_resolved.Goals as goal

pub returns : goal.returns
returns c h = submitted_resolved
