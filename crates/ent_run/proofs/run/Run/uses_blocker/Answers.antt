use Rattle.std.proofs.Common.{List, ap, ◌∙◌}
use Rattle.ent_run.specs.Run.{with_run}
use Rattle.ent_protocol.specs.State.{Use}
use Rattle.ent_protocol.specs.Uses.{blocker}
use Rattle.ent_run.proofs.run.Run.uses_blocker.Goals as goal

pub returns : goal.returns
returns g c = λ s.
    c.blocker.ensures s
    ∙ ap (λ (asked : List Use). blocker (with_run c.args.self.now s) c.args.asker.now asked)
    (c.as_slice.ensures.list ∙ c.statement_uses.ensures)
