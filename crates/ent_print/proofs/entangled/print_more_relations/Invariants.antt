use Rattle.std.proofs.Common.{◌≡◌, drop}
use Rattle.ent_text.specs.declared.symbol.Symbol.TheVariants.{Comma}
use Rattle.ent_print.specs.Spelling.{sign, each_behind, relation_spelling}
use Rattle.ent_print.specs.Printing.{with_lexemes}
use Rattle.ent_print.proofs.entangled.print_more_relations.Given as goal

-- what is printed, and what is left
abbrev pub invariant-loop-relation : goal.invariant-loop-relation
invariant-loop-relation l =
    with_lexemes l.printer (each_behind (sign Comma) relation_spelling (drop l.relation-index l.relations))
    ≡ with_lexemes l.fn.printer (each_behind (sign Comma) relation_spelling l.relations)
