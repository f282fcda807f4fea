use Rattle.std.proofs.Common.{◌++◌, map, ap, ◌∙◌}
use Rattle.ent_group.specs.Groups.{numbers_of}
use Rattle.ent_protocol.specs.State.{by_number}
use Rattle.ent_members.specs.Order.{tx_of}
use Rattle.ent_run.specs.InRuns.{in_runs}
use Rattle.ent_run.specs.Run.{Run}
use Rattle.ent_run.proofs.Standing.{numbers_told}
use Rattle.ent_run.proofs.run.Run.numbers.Goals as goal

pub returns : goal.returns
returns c = λ s.
    let locks = c.self.inside.locks in
    let groups = c.self.inside.groups in
    c.numbers_of.ensures
    ∙ ap numbers_of c.as_slice.ensures.list
    ∙ numbers_told locks groups (in_runs locks groups c.self.inside.members.prepared)
    (in_runs locks groups c.self.inside.members.active) c.as_slice.ensures.by_number c.self.invariant.0
    ∙ ap (λ (run : Run). map tx_of (by_number tx_of (run.prepared ++ run.active))) c.self.view_is
