use Rattle.std.proofs.Common.{ap, ◌∙◌}
use Rattle.ent_form.specs.Kinds.{none_bound}
use Rattle.ent_form.specs.Bindings.{bound_from}
use Rattle.ent_form.proofs.Steps.{bound_push}
use Rattle.ent_form.proofs.binding.Bindings.bind.Goals as goal

pub returns-clause-ok : goal.returns-clause-ok
returns-clause-ok c = ap (bound_from none_bound) c.in_ok-push.ensures.ok
    ∙ bound_push none_bound c.args.self.now.bindings (record { name = c.args.name; kind = c.args.kind })
