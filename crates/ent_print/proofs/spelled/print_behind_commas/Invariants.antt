use Rattle.std.proofs.Common.{◌≡◌, drop}
use Rattle.ent_text.specs.declared.symbol.Symbol.TheVariants.{Comma}
use Rattle.ent_print.specs.Spelling.{sign, each_behind}
use Rattle.ent_print.specs.Printing.{with_lexemes}
use Rattle.ent_print.proofs.spelled.print_behind_commas.Given as goal

-- what is printed, and what is left
abbrev pub invariant-loop-thing : goal.invariant-loop-thing
invariant-loop-thing g l =
    with_lexemes l.printer (each_behind (sign Comma) g.T.Spelled.spelling (drop l.thing-index l.things))
    ≡ with_lexemes l.fn.printer (each_behind (sign Comma) g.T.Spelled.spelling l.things)
