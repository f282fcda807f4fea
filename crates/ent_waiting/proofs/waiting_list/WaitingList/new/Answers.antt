use Rattle.std.proofs.Common.{arith, ◌≤◌}
use Rattle.ent_waiting.proofs.Keeping.{kept_empty}
use Rattle.ent_waiting.proofs.waiting_list.WaitingList.new.Goals as goal

pub invariant_of-result : goal.invariant_of-result
invariant_of-result c =
    let given : c.number-2.result ≤ c.number.result = omega arith in
    kept_empty _ c.new-2.result c.new.ensures.empty c.new-3.ensures.items given c.new-2.ensures
