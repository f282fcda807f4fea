use Rattle.std.proofs.Common.{◌∙◌, sym, arith}
use Rattle.ent_join.proofs.Read.{slot_marked_still, test_refuses, test_unread}
use Rattle.ent_join.proofs.frame.still_may_hold.Goals as goal

pub returns-then-not-is_class-2-clause-passes : goal.returns-then-not-is_class-2-clause-passes
returns-then-not-is_class-2-clause-passes c =
    sym (test_unread c.args.values.now c.args.test.now c.in-Some.last (omega arith)
    (sym c.is_class.ensures.value ∙ c.if-not-is_class.true)
    (sym c.is_class-then-not-is_class.ensures.value ∙ c.if-not-is_class-2.true) c.requires.begun)

pub returns-clause-refused : goal.returns-clause-refused
returns-clause-refused c = λ _.
    let test = c.args.test.now in
    test_refuses c.args.values.now test c.mark_slot-2.new.reason (omega arith)
    (sym c.may_hold.ensures ∙ c.if-may_hold.false)
    (slot_marked_still c.mark_slot.new.reason c.mark_slot-2.new.reason test.left c.mark_slot-2.auto.reason
    c.mark_slot-2.ensures.kept c.mark_slot.ensures.marked)
    c.mark_slot-2.ensures.marked
