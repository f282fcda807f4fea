use Rattle.std.proofs.Common.{◌≡◌, drop}
use Rattle.std.specs.List.{flat_map}
use Rattle.ent_print.specs.Spelling.{line_spelling}
use Rattle.ent_print.specs.Printing.{with_lexemes}
use Rattle.ent_print.proofs.script.print_lines.Given as goal

-- what is printed, and what is left
abbrev pub invariant-loop-statement : goal.invariant-loop-statement
invariant-loop-statement l =
    with_lexemes l.printer (flat_map line_spelling (drop l.statement-index l.statements)) ≡ with_lexemes l.fn.printer
    (flat_map line_spelling l.statements)
