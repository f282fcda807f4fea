use Rattle.std.proofs.Common.{sym, subst, ◌≤◌}
use Rattle.ent_group.specs.declared.members.TheConstants.{MOST_MEMBERS}
use Rattle.ent_protocol_laws.proofs.Numbers.{are_members, as_many, numbers_ascend}
use Rattle.ent_protocol_laws.proofs.endings_law.members_come_by_number.Goals as goal

pub returns-clause-by_number : goal.returns-clause-by_number
returns-clause-by_number g c forms s reached =
    numbers_ascend s (c.members_stand_by_number.ensures forms s reached)

pub returns-clause-bound : goal.returns-clause-bound
returns-clause-bound g c forms s reached =
    subst (λ n. n ≤ MOST_MEMBERS) (sym (as_many s)) (c.transactions_stand_once.ensures.bound forms s reached)

pub returns-clause-counted : goal.returns-clause-counted
returns-clause-counted g c = as_many

pub returns-clause-exact : goal.returns-clause-exact
returns-clause-exact g c = are_members
