-- A transaction has one posted statement.
use Rattle.std.proofs.Common.{◌≡◌, ◌∙◌, ℕ, sym}
use Rattle.ent_semantics.specs.Pool.{Posted}
use Rattle.ent_core.specs.Obstacle.{IsOf}
use Rattle.ent_lists.specs.Elements.{contains_in, index_pairs}
use Rattle.ent_protocol.specs.Member.{pool}
use Rattle.ent_protocol.specs.State.{State}
use Rattle.ent_protocol_laws.specs.ByNumber.{StandByNumber}
use Rattle.ent_protocol_laws.specs.Numbered.{Below, below_apart, one_of}
use Rattle.ent_protocol_laws.proofs.ByNumber.{posted_tx}

pub one_query : (s : State) → StandByNumber s → (tx : ℕ) (one other : Posted) → IsOf (pool s) tx one
    → IsOf (pool s) tx other → one ≡ other
one_query s by_number tx one other own its =
    one_of posted_tx (pool s) one other
    (below_apart posted_tx (pool s) (index_pairs (Below posted_tx) (pool s) by_number.pool))
    (contains_in (pool s) one own.0) (contains_in (pool s) other its.0) (own.1 ∙ sym its.1)
