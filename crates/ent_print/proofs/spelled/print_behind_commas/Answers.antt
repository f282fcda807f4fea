use Rattle.ent_print.proofs.Lexemes.{one_more}
use Rattle.ent_print.proofs.spelled.print_behind_commas.Goals as goal

pub loop-thing-preserved : goal.loop-thing-preserved
loop-thing-preserved g c =
    one_more _ g.T.Spelled.spelling c.loop-thing.printer c.push_sign.new.self c.print.new.printer _
    c.loop-thing.thing-index c.args.things.now c.thing-item.result
    c.loop-thing-test.true c.thing-item.is c.in_ok-push_sign.ensures c.in_ok-print.ensures c.loop-thing.invariant
