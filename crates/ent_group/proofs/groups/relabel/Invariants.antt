use Rattle.std.proofs.Common.{◌≡◌, ◌++◌, take, drop, map}
use Rattle.ent_group.specs.Groups.{relabelled}
use Rattle.ent_group.proofs.groups.relabel.Given as goal

abbrev pub invariant-loop-membership : goal.invariant-loop-membership
invariant-loop-membership l =
    l.memberships ≡ map (relabelled l.gone l.kept) (take l.membership-index l.fn.memberships)
    ++ drop l.membership-index l.fn.memberships
