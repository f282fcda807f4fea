use Rattle.std.proofs.Common.{◌≡◌, ℕ, ◌+◌, List, get_or, refl, sym, subst, ◌∙◌, true≢false}
use Rattle.std.specs.Prelude.{All, Contains}
use Rattle.std.proofs.lemmas.List.{take_all}
use Rattle.std.proofs.lemmas.List.Elements.{Contains-get_or}
use Rattle.ent_group.proofs.CycleWalk.{room_more, few_waiters, Extending, extending_more, extending_same}
use Rattle.ent_group.proofs.waits.extend.Goals.{then-other-awaited+then-not-contains, else-other-awaited}
use Rattle.ent_group.proofs.waits.extend.Goals.{else-other-awaited-via-then-other-awaited+else-not-contains}
use Rattle.ent_group.proofs.waits.extend.Goals.{else-other-awaited-via-else-other-awaited}
use Rattle.ent_group.proofs.waits.extend.Goals as goal

pub push-requires : goal.push-requires
push-requires c =
    let pairs = c.args.pairs.now in
    let p = get_or pairs c.loop-waiter.waiter-index (0, 0) in
    let reach = c.loop-waiter.invariant.reach in
    room_more pairs c.loop-waiter.reached p.0 p.1 c.requires.names reach.distinct reach.waiters
    (Contains-get_or pairs c.loop-waiter.waiter-index (0, 0) c.loop-waiter-test.true)
    (λ inside. true≢false (sym (c.contains.ensures.member.1 inside) ∙ c.if-not-contains.true))

pub loop-waiter-preserved : goal.loop-waiter-preserved
loop-waiter-preserved c =
    let pairs = c.args.pairs.now in
    let old : List ℕ = c.args.reached.now in
    let reached : List ℕ = c.loop-waiter.reached in
    let i = c.loop-waiter.waiter-index in
    let p = get_or pairs i (0, 0) in
    let awaited = c.args.awaited in
    let inv = c.loop-waiter.invariant in
    elim c.if-other-awaited.branch [
      | then-other-awaited+then-not-contains w ↦
          subst (λ (ms : List ℕ). Extending pairs old ms awaited (i + 1)) (sym (w.reached-is ∙ w.push.ensures))
          (extending_more pairs old reached awaited i p.0 p.1 inv c.loop-waiter-test.true refl w.if-other-awaited.true
          (λ inside. true≢false (sym (w.contains.ensures.member.1 inside) ∙ w.if-not-contains.true)))
      | else-other-awaited w ↦
          subst (λ (ms : List ℕ). Extending pairs old ms awaited (i + 1)) (sym w.reached-is)
          (extending_same pairs old reached awaited i inv c.loop-waiter-test.true (λ same.
          elim w.else-other-awaited.branch [
            | else-other-awaited-via-then-other-awaited+else-not-contains v ↦ v.contains.ensures.member.0
                v.if-not-contains.false
            | else-other-awaited-via-else-other-awaited v ↦ absurd (v.if-other-awaited.false same)
          ]))
    ]

pub returns-clause-all : goal.returns-clause-all
returns-clause-all c =
    subst (All (λ p. p.1 ≡ c.args.awaited → Contains c.loop-waiter.reached p.0))
    (take_all c.loop-waiter.waiter-index c.args.pairs.now c.loop-waiter-test.false) c.loop-waiter.invariant.all

pub returns-clause-bound : goal.returns-clause-bound
returns-clause-bound c =
    let reach = c.loop-waiter.invariant.reach in
    few_waiters c.args.pairs.now c.loop-waiter.reached c.requires.names reach.distinct reach.waiters
