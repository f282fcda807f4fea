use Rattle.std.proofs.Common.{◌≡◌, ◌<◌, ◌∙◌, true, false, length, map, ap, subst, sym}
use Rattle.std.specs.Prelude.{is_some}
use Rattle.ent_semantics.specs.Choice.{IsLeastChoice}
use Rattle.ent_plan.specs.Plan.{slot_value, spread}
use Rattle.ent_join.specs.Frame.{candidates_of, lets_through}
use Rattle.ent_join.specs.Search.{AreTicks, IsGuide}
use Rattle.ent_join.proofs.Empty.{none_passes}
use Rattle.ent_join.proofs.Chosen.{chosen, guides, least_found, none_chosen, none_found}
use Rattle.ent_join.proofs.Ticking.{row_ticks}
use Rattle.ent_join.proofs.choice.counted_choice.Goals as goal

pub least-requires : goal.least-requires
least-requires c =
    let plan = c.args.plan.now in
    let tables = c.args.tables.now in
    let frame = c.in_ok-frame.frame in
    let framed = c.in_ok-frame.ensures in
    subst (λ n. IsGuide n (candidates_of frame) (lets_through frame)) (sym (ap length c.kinds-kinds.ensures.kinds))
    (guides plan c.kinds-kinds.ensures.plan tables frame framed.indexes framed.tests framed.kinds
    c.requires)

pub returns-then-has_empty_domain-clause-choice : goal.returns-then-has_empty_domain-clause-choice
returns-then-has_empty_domain-clause-choice c = λ laid are.
    let plan = c.args.plan.now in
    let is = c.kinds-kinds.ensures.plan in
    let tables = c.args.tables.now in
    let frame = c.in_ok-frame.frame in
    let framed = c.in_ok-frame.ensures in
    let empty = c.has_empty_domain.ensures c.if-has_empty_domain.true in
    none_chosen plan is tables frame framed.indexes framed.tests framed.kinds laid are
    (λ groundings. c.plan_has_the_choices.ensures laid plan groundings is)
    (λ others values w v. c.plan_keeps_the_order.ensures plan others values is w v)
    (none_passes (length plan.kinds) empty.0 frame (subst (λ n. empty.0 < n) (ap length framed.kinds) empty.1) empty.2)

pub returns-in-None-clause-choice : goal.returns-in-None-clause-choice
returns-in-None-clause-choice c = λ laid are.
    let plan = c.args.plan.now in
    let is = c.kinds-kinds.ensures.plan in
    let tables = c.args.tables.now in
    let frame = c.in_ok-frame.frame in
    let framed = c.in_ok-frame.ensures in
    none_chosen plan is tables frame framed.indexes framed.tests framed.kinds laid are
    (λ groundings. c.plan_has_the_choices.ensures laid plan groundings is)
    (λ others values w v. c.plan_keeps_the_order.ensures plan others values is w v)
    (none_found (length c.kinds-kinds.result.now) (length plan.kinds) (lets_through frame) c.in_ok-least.field-0
    (ap length c.kinds-kinds.ensures.kinds) c.in-None.is c.in_ok-least.ensures.least)

pub returns-clause-choice : goal.returns-clause-choice
returns-clause-choice c = λ laid are.
    let plan = c.args.plan.now in
    let is = c.kinds-kinds.ensures.plan in
    let tables = c.args.tables.now in
    let frame = c.in_ok-frame.frame in
    let framed = c.in_ok-frame.ensures in
    let values = c.in-Some.values in
    let made : c.in_ok-valuations-in-Some.field-0 ≡ spread plan values =
    c.in_ok-valuations-in-Some.ensures
    ∙ (λ i. map (map (slot_value (c.values.ensures i))) (c.slots.ensures.slots i)) in
    subst (IsLeastChoice laid plan.members) (sym made)
    (chosen plan is tables frame framed.indexes framed.tests framed.kinds laid are
    (λ groundings. c.plan_has_the_choices.ensures laid plan groundings is)
    (λ others values w v. c.plan_keeps_the_order.ensures plan others values is w v) values
    (least_found (length c.kinds-kinds.result.now) (length plan.kinds) (lets_through frame) c.in_ok-least.field-0 values
    (ap length c.kinds-kinds.ensures.kinds) c.in-Some.is c.in_ok-least.ensures.least))

pub returns-in-None-clause-ticks : goal.returns-in-None-clause-ticks
returns-in-None-clause-ticks c = λ laid member are alone asks.
    let plan = c.args.plan.now in
    let is = c.kinds-kinds.ensures.plan in
    let tables = c.args.tables.now in
    let frame = c.in_ok-frame.frame in
    let framed = c.in_ok-frame.ensures in
    row_ticks plan is tables frame framed.indexes framed.tests framed.kinds laid are c.requires
    member alone asks (length c.kinds-kinds.result.now) c.args.ticks.now c.least.new.ticks false
    (ap length c.kinds-kinds.ensures.kinds)
    (λ ends. subst
    (λ found. AreTicks (length c.kinds-kinds.result.now) c.args.ticks.now c.least.new.ticks (is_some found))
    c.in-None.is (c.in_ok-least.ensures.ticks ends))

pub returns-clause-ticks : goal.returns-clause-ticks
returns-clause-ticks c = λ laid member are alone asks.
    let plan = c.args.plan.now in
    let is = c.kinds-kinds.ensures.plan in
    let tables = c.args.tables.now in
    let frame = c.in_ok-frame.frame in
    let framed = c.in_ok-frame.ensures in
    row_ticks plan is tables frame framed.indexes framed.tests framed.kinds laid are c.requires
    member alone asks (length c.kinds-kinds.result.now) c.args.ticks.now c.least.new.ticks true
    (ap length c.kinds-kinds.ensures.kinds)
    (λ ends. subst
    (λ found. AreTicks (length c.kinds-kinds.result.now) c.args.ticks.now c.least.new.ticks (is_some found))
    c.in-Some.is (c.in_ok-least.ensures.ticks ends))
