use Rattle.std.proofs.Common.{sym, subst}
use Rattle.ent_semantics.specs.Pool.{IsSafe}
use Rattle.ent_plan.specs.Plan.{HaveNoPlan}
use Rattle.ent_plan.proofs.join_plan.JoinPlan.of.Goals as goal

pub slots_of-requires-clause-safe : goal.slots_of-requires-clause-safe
slots_of-requires-clause-safe c = subst IsSafe (sym c.as_slice.ensures.value) c.requires.safe

pub returns-in_default : goal.returns-in_default
returns-in_default c =
    let none = rw c.in_default.is at c.in_ok-found.ensures in
    subst HaveNoPlan c.as_slice.ensures.value none
