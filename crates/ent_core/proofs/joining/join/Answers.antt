use Rattle.std.proofs.Common.{◌≡◌, ◌∙◌, ◌++◌, List, ap, subst, sym}
use Rattle.ent_members.specs.Answered.{MemberAnswer}
use Rattle.ent_run.specs.Answered.{answered_from, answered_labels, member_answers}
use Rattle.ent_protocol.specs.PoolEvents.{in_joined_group}
use Rattle.ent_waits.specs.Pooled.{IsPoolOf}
use Rattle.ent_core.proofs.Answering.{given_distinct}
use Rattle.ent_core.proofs.Begun.{kept_answered}
use Rattle.ent_core.proofs.Pooled.{kept_joined}
use Rattle.ent_core.proofs.Settled.{settled_pushed}
use Rattle.ent_core.proofs.joining.join.Goals as goal

pub answer-requires : goal.answer-requires
answer-requires c =
    let asked = c.args.asked.now in
    let groundings = c.args.groundings.now in
    given_distinct c.push_answers.new.given.items asked groundings
    (c.in_ok-push_answers.ensures
    ∙ ap (λ (all : List MemberAnswer). all ++ member_answers asked groundings) c.in_ok-given.ensures.items)
    c.requires.one_each c.requires.distinct

pub invariant_of-store-2 : goal.invariant_of-store-2
invariant_of-store-2 c =
    let inside = c.store.inside in
    let asked = c.args.asked.now in
    let groundings = c.args.groundings.now in
    let given = c.push_answers.new.given.items in
    let are : given ≡ member_answers asked groundings =
    c.in_ok-push_answers.ensures
    ∙ ap (λ (all : List MemberAnswer). all ++ member_answers asked groundings) c.in_ok-given.ensures.items in
    let run = c.answer.new.self in (
      kept_answered inside.catalogue.tables inside.opening inside.submitted.items inside.transaction_table
          inside.running inside.run run inside.tables inside.pool c.withdraw_answered.new.pool
          (in_joined_group (answered_labels given inside.run))
          (λ member. in_joined_group (answered_labels given inside.run) (answered_from given member))
          c.store.invariant.0 c.in_ok-answer.ensures.ok.prepared c.in_ok-answer.ensures.ok.active
          (subst (IsPoolOf inside.submitted.items run.active) (sym c.withdraw_answered.ensures)
          (kept_joined inside.submitted.items inside.run.active inside.pool c.store.invariant.0.posted
          inside.run.prepared asked groundings run c.requires.one_each
          (λ s. c.in_ok-answer.ensures.joining s asked groundings are c.requires.one_each))),
      settled_pushed inside.settled inside.joints.items _ c.push_reserved.new.self.items _
          inside.transaction_table.fates c.push_reserved.ensures.items c.in_ok-reserve.ensures.items
          c.store.invariant.1,
    )
