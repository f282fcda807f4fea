use Rattle.std.proofs.Common.{refl}
use Rattle.ent_print.proofs.Lexemes.{where_and_more}
use Rattle.ent_print.proofs.spelled.print_where.Goals as goal

pub returns-in_ok-print_behind_ands : goal.returns-in_ok-print_behind_ands
returns-in_ok-print_behind_ands g c =
    where_and_more g.T.Spelled.spelling _ c.push_word.new.self c.print.new.printer _ c.args.conditions.now _
    c.first-item.result c.in-len1-up.len_at_least c.first-item.is refl
    c.in_ok-push_word.ensures c.in_ok-print.ensures c.in_ok-print_behind_ands.ensures
