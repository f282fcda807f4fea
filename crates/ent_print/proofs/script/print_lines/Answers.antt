use Rattle.ent_print.specs.Spelling.{statement_spelling}
use Rattle.ent_print.proofs.Lexemes.{one_line_more}
use Rattle.ent_print.proofs.script.print_lines.Goals as goal

pub loop-statement-preserved : goal.loop-statement-preserved
loop-statement-preserved c =
    one_line_more statement_spelling c.loop-statement.printer c.print_statement.new.printer c.push_sign.new.self _ _
    c.loop-statement.statement-index c.args.statements.now c.statement-item.result
    c.loop-statement-test.true c.statement-item.is c.in_ok-print_statement.ensures c.in_ok-push_sign.ensures
    c.loop-statement.invariant
