use Rattle.ent_headline.specs.Resolved.{resolved_forms}
use Rattle.ent_headline.proofs.run.resolved_entangled_statements_are_answered_once.Goals as goal

pub returns-clause-once : goal.returns-clause-once
returns-clause-once c s tx place e reached asked =
    c.entangled_statements_are_answered_once.ensures.once resolved_forms s tx place
    (c.resolved_forms_are_faithful.ensures s.opening e) reached asked

pub returns-clause-nothing_else : goal.returns-clause-nothing_else
returns-clause-nothing_else c s e reached =
    c.entangled_statements_are_answered_once.ensures.nothing_else resolved_forms s
    (c.resolved_forms_are_faithful.ensures s.opening e) reached
