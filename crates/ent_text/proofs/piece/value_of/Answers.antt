use Rattle.ent_text.proofs.Reading.{over_at_once, over_behind}
use Rattle.ent_text.proofs.piece.value_of.Goals as goal

pub returns-then-value-gt922337203685477580-clause-none :
    goal.returns-then-value-gt922337203685477580-clause-none
returns-then-value-gt922337203685477580-clause-none c = over_at_once c.loop-digit.digit-index c.loop-digit.value _ _
    c.loop-digit-test.true c.if-value-gt922337203685477580.true c.loop-digit.invariant.whole

pub returns-then-value-gt9223372036854775807-clause-none :
    goal.returns-then-value-gt9223372036854775807-clause-none
returns-then-value-gt9223372036854775807-clause-none c = over_behind c.loop-digit.digit-index c.loop-digit.value _ _ _
    c.loop-digit-test.true c.saturating_sub.ensures c.if-value-gt9223372036854775807.true c.loop-digit.invariant.whole
