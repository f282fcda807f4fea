use Rattle.std.proofs.Common.{refl}
use Rattle.ent_print.proofs.Lexemes.{first_and_more}
use Rattle.ent_print.proofs.spelled.print_comma_list.Goals as goal

pub returns-in_ok-print_behind_commas : goal.returns-in_ok-print_behind_commas
returns-in_ok-print_behind_commas g c =
    first_and_more _ g.T.Spelled.spelling _ c.print.new.printer _ c.args.things.now _ c.first-item.result
    c.in-len1-up.len_at_least c.first-item.is refl
    c.in_ok-print.ensures c.in_ok-print_behind_commas.ensures
