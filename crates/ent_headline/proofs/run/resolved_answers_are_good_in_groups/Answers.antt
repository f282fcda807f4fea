use Rattle.ent_headline.specs.Resolved.{resolved_forms}
use Rattle.ent_headline.proofs.run.resolved_answers_are_good_in_groups.Goals as goal

pub returns-clause-one_group : goal.returns-clause-one_group
returns-clause-one_group c s e reached =
    c.live_answers_are_good_in_groups.ensures.one_group resolved_forms s
    (c.resolved_forms_are_faithful.ensures s.opening e) reached

pub returns-clause-good : goal.returns-clause-good
returns-clause-good c s group e reached =
    c.live_answers_are_good_in_groups.ensures.good resolved_forms s group
    (c.resolved_forms_are_faithful.ensures s.opening e) reached
