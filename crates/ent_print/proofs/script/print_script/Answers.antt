use Rattle.std.proofs.Common.{◌∙◌}
use Rattle.ent_print.specs.Spelling.{script_spelling}
use Rattle.ent_print.proofs.Lexemes.{whole_text}
use Rattle.ent_print.proofs.script.print_script.Goals as goal

pub returns : goal.returns
returns c =
    c.into_text.ensures
    ∙ whole_text c.new-printer.result c.print_lines_of.new.printer (script_spelling c.args.script.now)
    c.new-printer.ensures.text c.new-printer.ensures.wanted c.in_ok-print_lines_of.ensures
