use Rattle.ent_headline.specs.Resolved.{resolved_forms}
use Rattle.ent_headline.proofs.run.resolved_runs_give_the_book.Goals as goal

pub returns : goal.returns
returns c s e reached =
    c.committed_runs_give_the_book.ensures resolved_forms s (c.resolved_forms_are_faithful.ensures s.opening e) reached
