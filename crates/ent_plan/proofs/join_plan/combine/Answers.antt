use Rattle.std.proofs.Common.{◌≡◌, ◌∙◌, ℕ, List, sym, subst, ap}
use Rattle.std.specs.Prelude.{IfOk, MatchOption}
use Rattle.ent_semantics.specs.Pool.{IsPool, IsSafe, Posted}
use Rattle.ent_plan.specs.Plan.{HaveDistinctHeads, HaveNoPlan, named}
use Rattle.ent_plan.proofs.Selection.{named_once, named_safe, named_distinct}
use Rattle.ent_plan.proofs.join_plan.combine.Goals as goal

-- the copies are the named statements of the pool
copied : (items members pool : List Posted) (txs : List ℕ) → items ≡ named members txs → members ≡ pool
    → items ≡ named pool txs
copied items members pool txs is same = is ∙ ap (λ p. named p txs) same

pub of-requires-clause-one : goal.of-requires-clause-one
of-requires-clause-one c =
    subst IsPool (sym (copied _ _ _ c.args.txs.now c.in_ok-members.ensures c.members.ensures.members))
    (named_once c.args.pool.now c.args.txs.now c.members.ensures.by_number)

pub of-requires-clause-safe : goal.of-requires-clause-safe
of-requires-clause-safe c =
    subst IsSafe (sym (copied _ _ _ c.args.txs.now c.in_ok-members.ensures c.members.ensures.members))
    (named_safe c.args.pool.now c.args.txs.now c.members.ensures.safe)

pub of-requires-clause-heads : goal.of-requires-clause-heads
of-requires-clause-heads c =
    subst HaveDistinctHeads (sym (copied _ _ _ c.args.txs.now c.in_ok-members.ensures c.members.ensures.members))
    (named_distinct c.args.pool.now c.args.txs.now c.requires)

pub returns : goal.returns
returns c =
    subst (λ (members : List Posted). IfOk c.of.result
    (λ plan. MatchOption plan (HaveNoPlan members) (λ some. some.members ≡ members)))
    (copied _ _ _ c.args.txs.now c.in_ok-members.ensures c.members.ensures.members) c.of.ensures
