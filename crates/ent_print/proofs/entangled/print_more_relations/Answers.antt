use Rattle.ent_print.proofs.Lexemes.{one_more}
use Rattle.ent_print.specs.Spelling.{relation_spelling}
use Rattle.ent_print.proofs.entangled.print_more_relations.Goals as goal

pub loop-relation-preserved : goal.loop-relation-preserved
loop-relation-preserved c =
    one_more _ relation_spelling c.loop-relation.printer c.push_sign.new.self c.print_relation.new.printer _
    c.loop-relation.relation-index c.args.relations.now c.relation-item.result
    c.loop-relation-test.true c.relation-item.is c.in_ok-push_sign.ensures c.in_ok-print_relation.ensures
    c.loop-relation.invariant
