use Rattle.ent_print.proofs.Lexemes.{one_more}
use Rattle.ent_print.proofs.spelled.print_behind_ands.Goals as goal

pub loop-condition-preserved : goal.loop-condition-preserved
loop-condition-preserved g c =
    one_more _ g.T.Spelled.spelling c.loop-condition.printer c.push_word.new.self c.print.new.printer _
    c.loop-condition.condition-index c.args.conditions.now c.condition-item.result
    c.loop-condition-test.true c.condition-item.is c.in_ok-push_word.ensures c.in_ok-print.ensures
    c.loop-condition.invariant
