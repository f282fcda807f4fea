use Rattle.std.proofs.Common.{ap, ◌∙◌}
use Rattle.ent_semantics.specs.Database.{with_value}
use Rattle.ent_closing.specs.Environment.{environment_of}
use Rattle.ent_closing.proofs.Bindings.{environment_of-push}
use Rattle.ent_closing.proofs.environment.Environment.bind.Goals as goal

pub returns-clause-ok : goal.returns-clause-ok
returns-clause-ok c =
    ap environment_of c.in_ok-push.ensures.items
    ∙ environment_of-push c.self.inside.bindings.items (c.args.variable, c.args.value)
    ∙ ap (λ bound. with_value (environment_of bound) c.args.variable c.args.value) c.self.view_is
