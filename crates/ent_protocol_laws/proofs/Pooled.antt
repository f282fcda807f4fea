-- A pool with a statement of a member that isn't posted: no two of one transaction, and no unsafe post where it is
-- safe.
use Rattle.std.proofs.Common.{◌≡◌, false, List, sym, ap, subst, ◌∙◌, arith}
use Rattle.ent_value.specs.declared.value.Value.{Value}
use Rattle.ent_semantics.specs.declared.entangled.Entangled.{Entangled}
use Rattle.ent_semantics.specs.Pool.{Posted, Unsafe, IsSafe, IsFirstUnsafe, CanMeet}
use Rattle.ent_lists.specs.Elements.{In, Pairs, clash, index_pairs, pairs_behind, contains_in}
use Rattle.ent_protocol.specs.Begin.{pool_with}
use Rattle.ent_protocol.specs.Member.{pool, posted_as}
use Rattle.ent_protocol.specs.PostedBy.{in_pool}
use Rattle.ent_protocol.specs.State.{State, Member}
use Rattle.ent_protocol_laws.specs.ByNumber.{StandByNumber}
use Rattle.ent_protocol_laws.specs.Numbered.{Apart, Below, below_apart, one_of}
use Rattle.ent_protocol_laws.proofs.ByNumber.{posted_tx}
use Rattle.ent_protocol_laws.proofs.Left.{tx_of}

-- in the pool with a statement of a member that isn't posted, no two are of one transaction
pub pool_apart : (s : State) (by_number : StandByNumber s) (m : Member) (asked : Entangled Value) → In m s.active
    → m.posted ≡ false → Pairs (Apart posted_tx) (pool_with s m asked)
pool_apart s by_number m asked at unposted =
    pairs_behind (Apart posted_tx) (pool s)
    (posted_as m asked)
    (below_apart posted_tx (pool s) (index_pairs (Below posted_tx) (pool s) by_number.pool)) (λ p there same.
    let r = in_pool s p there in
    let one = one_of tx_of s.active r.member m
    (below_apart tx_of s.active (index_pairs (Below tx_of) s.active by_number.active)) r.at at (sym r.own ∙ same) in
    clash r.member.posted r.by.posted (ap (λ (x : Member). x.posted) one ∙ unposted))

-- where no two are of one transaction a safe pool has no unsafe post
pub never_unsafe : (those : List Posted) (fault : Unsafe) → Pairs (Apart posted_tx) those → IsSafe those
    → IsFirstUnsafe those fault → ⊥
never_unsafe those fault apart safe unsafe =
    let one = unsafe.0.1 in
    let two = unsafe.0.2 in
    let asker = one_of posted_tx those two.asker one.asker apart (contains_in those two.asker two.asks)
    (contains_in those one.asker one.asks) (two.asker_is ∙ sym one.asker_is) in
    let meets : CanMeet one.asker fault.index two.partner =
    subst (λ (asker : Posted). CanMeet asker fault.index two.partner) asker two.meets in
    let same : fault.first ≡ fault.second =
    sym one.partner_is ∙ safe one.asker one.partner two.partner fault.index one.asks one.offers two.offers one.meets
    meets ∙ two.partner_is in
    let low = unsafe.0.0 in
    absurd (omega (arith, low, same))
