use Rattle.std.proofs.Common.{◌≡◌, List, sym, subst}
use Rattle.std.specs.Prelude.{MatchOption}
use Rattle.std.proofs.lemmas.Result.{IfOk-weaker}
use Rattle.ent_semantics.specs.Pool.{IsPool, IsSafe, Posted}
use Rattle.ent_join.specs.Plans.{HaveNoPlan}
use Rattle.ent_eval.proofs.Chosen.{by_number}
use Rattle.ent_eval.proofs.joint.plan_of.Goals as goal

pub of-requires-clause-one : goal.of-requires-clause-one
of-requires-clause-one c =
    subst IsPool (sym c.in_ok-shared.ensures) (by_number _ c.requires.1.component.ascending)

pub of-requires-clause-safe : goal.of-requires-clause-safe
of-requires-clause-safe c = subst IsSafe (sym c.in_ok-shared.ensures) c.requires.1.safe

pub returns : goal.returns
returns c =
    IfOk-weaker c.of.result _ _ (λ plan is. subst (λ (members : List Posted).
    MatchOption plan (HaveNoPlan members) (λ plan. plan.members ≡ members)) c.in_ok-shared.ensures is) c.of.ensures
