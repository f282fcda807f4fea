use Rattle.std.proofs.Common.{◌+◌, take, arith, sym, ap, subst, ◌∙◌, true≢false, Some}
use Rattle.ent_match.specs.Fault.{AreSoFar, AreTwoLeast}
use Rattle.ent_match.proofs.Faults.{skip, first_met, second_met, all_met}
use Rattle.ent_match.proofs.fault.two_least.Goals as goal
use Rattle.ent_match.proofs.fault.two_least.Goals.{then-can_meet+in_default, else-can_meet}

pub returns-in-Some : goal.returns-in-Some
returns-in-Some c =
    let ms = c.args.members.now in
    let asker = c.args.asker.now in
    let n = c.loop-owner.owner-index in
    let so_far = subst (λ z. AreSoFar (take n ms) asker c.args.index z) c.in-Some.is c.loop-owner.invariant in
    subst (λ t. AreTwoLeast ms asker c.args.index c.in-Some.first t) (sym c.tx.ensures)
    (second_met ms c.requires.by_number asker c.args.index n c.owner-item.result c.loop-owner-test.true c.owner-item.is
    c.in-Some.first (c.can_meet.ensures.0 c.if-can_meet.true) so_far)

pub loop-owner-preserved : goal.loop-owner-preserved
loop-owner-preserved c =
    let ms = c.args.members.now in
    let asker = c.args.asker.now in
    let n = c.loop-owner.owner-index in
    elim c.if-can_meet.branch [
      | then-can_meet+in_default w ↦
          let none = subst (λ z. AreSoFar (take n ms) asker c.args.index z) w.in_default.is c.loop-owner.invariant in
          subst (λ z. AreSoFar (take (n + 1) ms) asker c.args.index z)
          (sym (w.first-is ∙ ap (λ t. Some t) w.tx-then-can_meet.ensures))
          (first_met ms c.requires.by_number asker c.args.index n c.owner-item.result c.loop-owner-test.true
          c.owner-item.is
          (c.can_meet.ensures.0 w.if-can_meet.true) none)
      | else-can_meet w ↦
          subst (λ z. AreSoFar (take (n + 1) ms) asker c.args.index z) (sym w.first-is)
          (skip ms c.requires.by_number asker c.args.index n c.owner-item.result c.loop-owner-test.true c.owner-item.is
          c.loop-owner.first (λ m. true≢false (sym (c.can_meet.ensures.1 m) ∙ w.if-can_meet.false))
          c.loop-owner.invariant)
    ]

pub returns : goal.returns
returns c =
    all_met c.args.members.now c.args.asker.now c.args.index c.loop-owner.owner-index c.loop-owner.first (omega arith)
    c.loop-owner.invariant
