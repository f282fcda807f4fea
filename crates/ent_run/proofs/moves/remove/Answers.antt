use Rattle.std.proofs.Common.{rules}
use Rattle.ent_run.specs.Moves.{is_not_of}
use Rattle.ent_run.proofs.Retained.{retained}
use Rattle.ent_run.proofs.moves.remove.Goals as goal

pub returns : goal.returns
returns c = λ key.
    retained _ (is_not_of c.args.numbers.now) _ (λ k old keep new next called. search rules) _ _
    c.retain.ensures.retained key
