use Rattle.ent_protocol.specs.Rollback.{group_members, rolled_back}
use Rattle.ent_protocol_laws.proofs.Ended.{gives_up, has_own, of_group, waits}
use Rattle.ent_lists.specs.Elements.{in_contains}
use Rattle.ent_protocol_laws.proofs.steps_law.rolled_back_members_give_up_at_last.Goals as goal

pub returns-clause-own : goal.returns-clause-own
returns-clause-own c s group cause member fate there same is =
    in_contains (rolled_back group cause s).fates _
    (has_own s (group_members s group) cause member fate (of_group s group member there same) is)

pub returns-clause-gives_up : goal.returns-clause-gives_up
returns-clause-gives_up c s group cause member own there same unfated is_own last =
    in_contains (rolled_back group cause s).fates _
    (gives_up s (group_members s group) cause member own is_own (of_group s group member there same) unfated last)

pub returns-clause-waits : goal.returns-clause-waits
returns-clause-waits c s group cause member own there same unfated is_own differ =
    in_contains (rolled_back group cause s).dormant _
    (waits s (group_members s group) cause member own is_own (of_group s group member there same) unfated differ)
