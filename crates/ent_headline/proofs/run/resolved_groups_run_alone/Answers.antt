use Rattle.ent_headline.specs.Resolved.{resolved_forms}
use Rattle.ent_headline.proofs.run.resolved_groups_run_alone.Goals as goal

pub returns-clause-runs : goal.returns-clause-runs
returns-clause-runs c s group e reached =
    c.groups_run_alone.ensures.runs resolved_forms s group (c.resolved_forms_are_faithful.ensures s.opening e) reached

pub returns-clause-settled : goal.returns-clause-settled
returns-clause-settled c s e reached =
    c.groups_run_alone.ensures.settled resolved_forms s (c.resolved_forms_are_faithful.ensures s.opening e) reached
