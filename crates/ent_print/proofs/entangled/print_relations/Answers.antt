use Rattle.std.proofs.Common.{refl}
use Rattle.ent_print.proofs.Lexemes.{first_and_more}
use Rattle.ent_print.specs.Spelling.{relation_spelling}
use Rattle.ent_print.proofs.entangled.print_relations.Goals as goal

pub returns-in_ok-print_more_relations : goal.returns-in_ok-print_more_relations
returns-in_ok-print_more_relations c =
    first_and_more _ relation_spelling _ c.print_relation.new.printer _ c.args.relations.now _ c.first-item.result
    c.in-len1-up.len_at_least c.first-item.is refl
    c.in_ok-print_relation.ensures c.in_ok-print_more_relations.ensures
