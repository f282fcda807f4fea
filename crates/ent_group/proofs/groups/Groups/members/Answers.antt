use Rattle.std.proofs.Common.{sym, ◌∙◌}
use Rattle.ent_group.proofs.Labels.{labelled-IsStrictlyIncreasing, members_class}
use Rattle.ent_group.proofs.groups.Groups.members.Goals as goal

pub returns-in-Some-clause-by_number : goal.returns-in-Some-clause-by_number
returns-in-Some-clause-by_number c =
    rw (c.labelled.ensures, c.as_slice.ensures.list)
    (labelled-IsStrictlyIncreasing c.in-Some.group c.args.self.now c.as_slice.ensures.by_number)

pub returns-in-Some-clause-group : goal.returns-in-Some-clause-group
returns-in-Some-clause-group c =
    rw (c.labelled.ensures, c.as_slice.ensures.list)
    (members_class c.args.self.now c.args.tx c.in-Some.group c.as_slice.ensures.by_number
    (sym c.group_of.ensures ∙ c.in-Some.is))
