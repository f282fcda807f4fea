use Rattle.std.proofs.Common.{List, [], ◌∷◌, ap, sym, ◌∙◌}
use Rattle.ent_run.specs.Run.{with_run}
use Rattle.ent_protocol.specs.State.{Use}
use Rattle.ent_protocol.specs.Uses.{blocker}
use Rattle.ent_run.proofs.run.Run.statement_blocker.Goals as goal

pub returns-in-Some : goal.returns-in-Some
returns-in-Some g c = λ s.
    c.blocker.ensures s
    ∙ ap (λ (asked : List Use). blocker (with_run c.args.self.now s) c.args.asker.now asked)
    (ap (λ (own : Use). own ∷ []) c.exclusive.ensures ∙ sym c.in-Some.ensures.uses)
