use Rattle.std.proofs.Common.{◌≡◌, ◌↔◌, List, sym, ap, subst, ◌∙◌}
use Rattle.std.specs.Prelude.{IsTrue}
use Rattle.std.specs.Arc.{arc_value}
use Rattle.ent_semantics.specs.Pool.{IsSafe, Posted}
use Rattle.ent_members.specs.Next.{next_seen}
use Rattle.ent_protocol.specs.Member.{Asks, next_in, posted_as}
use Rattle.ent_protocol.specs.State.{Submitted}
use Rattle.ent_semantics.specs.Serial.{numbered}
use Rattle.ent_protocol_laws.proofs.Asked.{same_asks}
use Rattle.ent_waits.proofs.Posting.{fault_tells, has_none, pool_is}
use Rattle.ent_waits.proofs.movers.stays_safe.Goals as goal

pub post_fault-requires : goal.post_fault-requires
post_fault-requires c =
    has_none c.args.pool.now c.new-query.result c.args.member.now.tx
    (ap (λ (a : Posted). a.tx) c.new-query.ensures ∙ c.tx.ensures) c.requires

pub returns-in-Asks : goal.returns-in-Asks
returns-in-Asks c = λ s statement same posted next.
    let member = c.args.member.now in
    let query = c.new-query.result in
    let fault = c.in_ok-fault-in-Asks.fault in
    let own : query.tx ≡ member.tx =
    ap (λ (a : Posted). a.tx) c.new-query.ensures ∙ c.tx.ensures in
    let asks : Asks (arc_value c.in-Asks.statement) ≡ Asks statement =
    sym (ap next_seen c.in-Asks.is) ∙ c.in_ok-statement.ensures.next
    ∙ (ap (λ (scripts : List Submitted). next_in (numbered scripts member.tx) member) (sym same) ∙ next) in
    let is : query ≡ posted_as member statement =
    c.new-query.ensures
    ∙ (λ i. record {
      tx = c.tx.ensures i;
      attempt = c.attempt.ensures i;
      place = c.place-place.ensures i;
      statement = same_asks (arc_value c.in-Asks.statement) statement asks i;
    }) in
    subst (λ (pool : List Posted). IsTrue c.is_none.result ↔ IsSafe pool)
    (pool_is s c.args.pool.now query member statement posted is)
    (fault_tells c.args.pool.now query c.members-posted.ensures.by_number
    (has_none c.args.pool.now query member.tx own c.requires) fault c.is_none.result c.is_none.ensures
    c.in_ok-fault-in-Asks.ensures)
