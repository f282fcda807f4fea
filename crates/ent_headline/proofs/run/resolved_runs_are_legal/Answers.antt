use Rattle.ent_headline.specs.Resolved.{resolved_forms}
use Rattle.ent_headline.proofs.run.resolved_runs_are_legal.Goals as goal

pub returns : goal.returns
returns c s e reached =
    c.reached_states_are_legal.ensures resolved_forms s (c.resolved_forms_are_faithful.ensures s.opening e) reached
