use Rattle.std.proofs.Common.{◌≡◌, drop}
use Rattle.ent_text.specs.declared.keyword.Keyword.TheVariants.{And}
use Rattle.ent_print.specs.Spelling.{word, each_behind}
use Rattle.ent_print.specs.Printing.{with_lexemes}
use Rattle.ent_print.proofs.spelled.print_behind_ands.Given as goal

-- what is printed, and what is left
abbrev pub invariant-loop-condition : goal.invariant-loop-condition
invariant-loop-condition g l =
    with_lexemes l.printer (each_behind (word And) g.T.Spelled.spelling (drop l.condition-index l.conditions))
    ≡ with_lexemes l.fn.printer (each_behind (word And) g.T.Spelled.spelling l.conditions)
