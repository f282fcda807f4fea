use Rattle.std.proofs.Common.{ap, ◌∙◌}
use Rattle.ent_closing.specs.Environment.{environment_of}
use Rattle.ent_semantics.specs.Database.{nothing_bound, with_values}
use Rattle.ent_semantics.proofs.Environments.{values_joined}
use Rattle.ent_check.proofs.statement.answer_under.Goals as goal

pub returns-clause-bound : goal.returns-clause-bound
returns-clause-bound c =
    ap environment_of c.in_ok-bind_all.ensures.ok
    ∙ values_joined nothing_bound c.args.environment.now c.in_ok-bound.bound.items
    ∙ ap (with_values (environment_of c.args.environment.now)) c.in_ok-bound.ensures
