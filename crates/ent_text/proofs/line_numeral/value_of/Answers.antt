use Rattle.ent_text.proofs.LineDigits.{over_at_once, over_behind}
use Rattle.ent_text.proofs.line_numeral.value_of.Goals as goal

pub returns-then-value-gt922337203685477580-clause-none :
    goal.returns-then-value-gt922337203685477580-clause-none
returns-then-value-gt922337203685477580-clause-none c =
    over_at_once c.args.most c.loop-digit.digit-index c.loop-digit.value _ _ c.requires c.loop-digit-test.true
    c.if-value-gt922337203685477580.true c.loop-digit.invariant.whole

pub returns-then-value-most-clause-none : goal.returns-then-value-most-clause-none
returns-then-value-most-clause-none c =
    over_behind c.args.most c.loop-digit.digit-index c.loop-digit.value _ _ _ c.loop-digit-test.true
    c.saturating_sub.ensures c.if-value-most.true c.loop-digit.invariant.whole
