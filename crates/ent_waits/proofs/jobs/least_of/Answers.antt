use Rattle.std.proofs.Common.{◌≡◌, ◌+◌, ℕ, Option, Some, take, sym, subst, arith}
use Rattle.ent_semantics.specs.Pool.{Posted}
use Rattle.ent_lock.specs.Use.{IsLeastIfAny}
use Rattle.ent_waits.specs.Jobs.{HasPostedQuery}
use Rattle.ent_waits.proofs.Smallest.{least_more, least_nil, least_whole}
use Rattle.ent_waits.proofs.jobs.least_of.Goals as goal

pub loop-query-init : goal.loop-query-init
loop-query-init c = least_nil (λ (query : Posted) tx. query.tx ≡ tx)

pub loop-query-preserved : goal.loop-query-preserved
loop-query-preserved c =
    let asked = c.args.asked.now in
    let at = c.loop-query.query-index in
    let query = c.query-item.result in
    let own : IsLeastIfAny (λ tx. query.tx ≡ tx) (Some c.tx.result) =
    (sym c.tx.ensures, λ n is. omega (arith, c.tx.ensures, is)) in
    subst (λ (least : Option ℕ). IsLeastIfAny (HasPostedQuery (take (at + 1) asked)) least) (sym c.lesser-least.ensures)
    (least_more (λ (one : Posted) tx. one.tx ≡ tx) asked at query c.loop-query.least (Some c.tx.result)
    c.loop-query-test.true c.query-item.is c.loop-query.invariant own)

pub returns : goal.returns
returns c =
    least_whole (λ (query : Posted) tx. query.tx ≡ tx) c.args.asked.now c.loop-query.query-index c.loop-query.least
    c.loop-query-test.false c.loop-query.invariant
