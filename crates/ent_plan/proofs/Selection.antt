-- Some statements of a safe pool are a safe pool.
use Rattle.std.proofs.Common.{◌≢◌, ℕ, List}
use Rattle.std.proofs.Common.{arith}
use Rattle.std.specs.Prelude.{Contains}
use Rattle.std.proofs.lemmas.List.Elements.{All-contains, All-contains_itself, All-filter}
use Rattle.std.proofs.lemmas.List.Kept.{AllPairs-filter}
use Rattle.ent_semantics.specs.Pool.{Posted, IsPool, IsSafe}
use Rattle.ent_match.specs.Fault.{IsByNumber}
use Rattle.ent_plan.specs.Plan.{HaveDistinctHeads, is_named, named}

kept : (pool : List Posted) (txs : List ℕ) (member : Posted) → Contains (named pool txs) member
    → Contains pool member
kept pool txs member there =
    All-contains (Contains pool) (named pool txs) member
    (All-filter (is_named txs) (Contains pool) pool (All-contains_itself pool)) there

apart : (pool : List Posted) → IsByNumber pool → IsPool pool
apart pool ordered i j d less below same =
    (let l = ordered i j d less below in absurd (omega arith))

pub named_once : (pool : List Posted) (txs : List ℕ) → IsByNumber pool → IsPool (named pool txs)
named_once pool txs ordered =
    AllPairs-filter (λ (one other : Posted). one.tx ≢ other.tx) (is_named txs) pool (apart pool ordered)

pub named_safe : (pool : List Posted) (txs : List ℕ) → IsSafe pool → IsSafe (named pool txs)
named_safe pool txs safe asker first second index asks one other =
    safe asker first second index (kept pool txs asker asks) (kept pool txs first one) (kept pool txs second other)

pub named_distinct : (pool : List Posted) (txs : List ℕ) → HaveDistinctHeads pool → HaveDistinctHeads (named pool txs)
named_distinct pool txs distinct member there = distinct member (kept pool txs member there)
