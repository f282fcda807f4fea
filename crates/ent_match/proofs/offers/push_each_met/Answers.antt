use Rattle.std.proofs.Common.{◌+◌, List, length, arith, sym, ap, subst, ◌∙◌, true≢false, Vec, Global}
use Rattle.ent_value.specs.declared.value.Value.{Value}
use Rattle.ent_semantics.specs.declared.entangled.Entangled.{Entangled}
use Rattle.ent_match.specs.declared.offers.Offer.{Offer}
use Rattle.ent_match.proofs.Offered.{MetSoFar, met_all, met_more, met_same}
use Rattle.ent_match.proofs.offers.push_each_met.Goals as goal
use Rattle.ent_match.proofs.offers.push_each_met.Goals.{then-has_head_for+in_ok-push, else-has_head_for}

pub loop-index-preserved : goal.loop-index-preserved
loop-index-preserved c =
    let asker = c.args.asker.now in
    let owner = c.args.owner.now in
    let first = c.args.offers.now.items in
    let old = c.loop-index.offers.items in
    let i = c.loop-index.index in
    let items = λ (v : Vec Offer Global). v.items in
    elim c.if-has_head_for.branch [
      | then-has_head_for+in_ok-push w ↦
          met_more first old c.if-has_head_for.offers.items asker owner i w.tx.result w.tx-then-has_head_for.result
          w.tx.ensures w.tx-then-has_head_for.ensures (ap items w.offers-is ∙ w.in_ok-push.ensures.items)
          (c.has_head_for.ensures.0 w.if-has_head_for.true) c.loop-index.invariant
      | else-has_head_for w ↦
          subst (λ (xs : List Offer). MetSoFar first xs asker owner (i + 1)) (sym (ap items w.offers-is))
          (met_same first old asker owner i (λ m. true≢false (sym (c.has_head_for.ensures.1 m)
          ∙ w.if-has_head_for.false))
          c.loop-index.invariant)
    ]

pub returns-clause-ok : goal.returns-clause-ok
returns-clause-ok c =
    let posts = ap (λ (s : Entangled Value). length s.posts) c.statement.ensures in
    met_all c.args.offers.now.items c.loop-index.offers.items c.args.asker.now c.args.owner.now c.loop-index.index
    (omega arith) c.loop-index.invariant
