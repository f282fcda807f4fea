use Rattle.ent_headline.specs.Resolved.{resolved_forms}
use Rattle.ent_headline.proofs.run.resolved_answers_are_good.Goals as goal

pub returns : goal.returns
returns c s e reached =
    c.joint_answers_are_good.ensures resolved_forms s (c.resolved_forms_are_faithful.ensures s.opening e) reached
