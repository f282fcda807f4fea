use Rattle.std.proofs.Common.{◌++◌, map, ap, ◌∙◌}
use Rattle.std.specs.Prelude.{filter}
use Rattle.ent_protocol.specs.Member.{is_of}
use Rattle.ent_protocol.specs.State.{by_number}
use Rattle.ent_members.specs.Order.{tx_of}
use Rattle.ent_run.specs.Run.{Run}
use Rattle.ent_run.proofs.RunWith.{group_told}
use Rattle.ent_run.specs.InRuns.{in_runs}
use Rattle.ent_run.proofs.run.Run.group_numbers.Goals as goal

pub returns : goal.returns
returns c = λ s.
    group_told c.args.group c.members_of.result c.self.inside.locks c.self.inside.groups
    (in_runs c.self.inside.locks c.self.inside.groups c.self.inside.members.prepared)
    (in_runs c.self.inside.locks c.self.inside.groups c.self.inside.members.active) c.members_of.ensures.by_number
    c.members_of.ensures.members c.self.invariant.0
    ∙ ap (λ (run : Run). map tx_of (by_number tx_of (filter (is_of c.args.group) (run.prepared ++ run.active))))
    c.self.view_is
