use Rattle.ent_headline.specs.Resolved.{resolved_forms}
use Rattle.ent_headline.proofs.run.resolved_jobs_are_present.Goals as goal

pub returns-clause-apart : goal.returns-clause-apart
returns-clause-apart c s e reached =
    c.lent_jobs_are_present.ensures.apart resolved_forms s (c.resolved_forms_are_faithful.ensures s.opening e) reached

pub returns-clause-present : goal.returns-clause-present
returns-clause-present c s e reached =
    c.lent_jobs_are_present.ensures.present resolved_forms s (c.resolved_forms_are_faithful.ensures s.opening e) reached
