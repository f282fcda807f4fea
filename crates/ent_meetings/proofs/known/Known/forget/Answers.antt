use Rattle.std.proofs.Common.{ap, ◌∙◌, None}
use Rattle.ent_semantics.specs.Database.{nothing_bound}
use Rattle.ent_meetings.specs.Bindings.{with_bindings}
use Rattle.ent_meetings.proofs.Bindings.{with_bindings-push}
use Rattle.ent_meetings.proofs.known.Known.forget.Goals as goal

pub returns : goal.returns
returns c =
    ap (with_bindings nothing_bound) c.in_ok-push.ensures.items
    ∙ with_bindings-push nothing_bound c.args.self.now.bindings.items
    (record { variable = c.args.variable; value = None })
