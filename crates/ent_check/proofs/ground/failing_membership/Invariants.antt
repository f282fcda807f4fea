use Rattle.std.proofs.Common.{◌≡◌, true, take, map}
use Rattle.std.specs.Arc.{arc_value}
use Rattle.std.specs.List.{list_all}
use Rattle.ent_semantics.specs.Form.{membership_holds}
use Rattle.ent_ordinary.specs.Tables.{rows_in}
use Rattle.ent_ordinary.specs.Worth.{itself}
use Rattle.ent_check.proofs.ground.failing_membership.Given as goal

-- those so far hold
abbrev pub invariant-loop-membership : goal.invariant-loop-membership
invariant-loop-membership l =
    list_all (membership_holds itself (rows_in (map arc_value l.tables)) l.grounding)
    (take l.membership-index l.memberships) ≡ true
