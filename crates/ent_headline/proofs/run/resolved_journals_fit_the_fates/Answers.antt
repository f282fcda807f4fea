use Rattle.ent_headline.specs.Resolved.{resolved_forms}
use Rattle.ent_headline.proofs.run.resolved_journals_fit_the_fates.Goals as goal

pub returns : goal.returns
returns c s e reached =
    c.journals_fit_the_fates.ensures resolved_forms s (c.resolved_forms_are_faithful.ensures s.opening e) reached
