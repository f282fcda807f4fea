use Rattle.std.proofs.Common.{ℕ, ◌+◌, List, get_or, sym, subst, ◌∙◌, true≢false}
use Rattle.std.specs.Prelude.{All, Contains}
use Rattle.std.proofs.lemmas.List.{take_all}
use Rattle.std.proofs.lemmas.List.Elements.{Contains-get_or}
use Rattle.ent_group.proofs.CycleWalk.{Waiting, room_more, few_waiters, waiting_start, waiting_more, waiting_same}
use Rattle.ent_group.proofs.waits.waiters_of.Goals.{then-not-contains, else-not-contains}
use Rattle.ent_group.proofs.waits.waiters_of.Goals as goal

pub loop-waiter-init : goal.loop-waiter-init
loop-waiter-init c = subst (λ (xs : List ℕ). Waiting c.args.pairs.now xs 0) (sym c.new-waiters.ensures)
    (waiting_start c.args.pairs.now)

pub push-requires : goal.push-requires
push-requires c =
    let pairs = c.args.pairs.now in
    let p = get_or pairs c.loop-waiter.waiter-index (0, 0) in
    let inv = c.loop-waiter.invariant in
    room_more pairs c.loop-waiter.waiters p.0 p.1 c.requires inv.distinct inv.each
    (Contains-get_or pairs c.loop-waiter.waiter-index (0, 0) c.loop-waiter-test.true)
    (λ inside. true≢false (sym (c.contains.ensures.member.1 inside) ∙ c.if-not-contains.true))

pub loop-waiter-preserved : goal.loop-waiter-preserved
loop-waiter-preserved c =
    let pairs = c.args.pairs.now in
    let i = c.loop-waiter.waiter-index in
    elim c.if-not-contains.branch [
      | then-not-contains w ↦
          subst (λ (xs : List ℕ). Waiting pairs xs (i + 1)) (sym (w.waiters-is ∙ w.push.ensures))
          (waiting_more pairs c.loop-waiter.waiters i c.loop-waiter.invariant c.loop-waiter-test.true
          (λ inside. true≢false (sym (c.contains.ensures.member.1 inside) ∙ w.if-not-contains.true)))
      | else-not-contains w ↦
          subst (λ (xs : List ℕ). Waiting pairs xs (i + 1)) (sym w.waiters-is)
          (waiting_same pairs c.loop-waiter.waiters i c.loop-waiter.invariant c.loop-waiter-test.true
          (c.contains.ensures.member.0 w.if-not-contains.false))
    ]

pub returns : goal.returns
returns c =
    let pairs = c.args.pairs.now in
    let inv = c.loop-waiter.invariant in
    record {
      distinct = inv.distinct;
      each = inv.each;
      all = subst (All (λ p. Contains c.loop-waiter.waiters p.0))
          (take_all c.loop-waiter.waiter-index pairs c.loop-waiter-test.false) inv.all;
      bound = few_waiters pairs c.loop-waiter.waiters c.requires inv.distinct inv.each;
    }
