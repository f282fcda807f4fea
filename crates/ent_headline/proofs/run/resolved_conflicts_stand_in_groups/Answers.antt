use Rattle.ent_headline.specs.Resolved.{resolved_forms}
use Rattle.ent_headline.proofs.run.resolved_conflicts_stand_in_groups.Goals as goal

pub returns : goal.returns
returns c s e reached =
    c.conflicts_stand_in_groups.ensures resolved_forms s (c.resolved_forms_are_faithful.ensures s.opening e) reached
