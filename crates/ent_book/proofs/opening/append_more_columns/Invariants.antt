use Rattle.std.proofs.Common.{◌≡◌, ◌++◌, drop}
use Rattle.ent_book.specs.Report2.{more_columns_text}
use Rattle.ent_book.proofs.opening.append_more_columns.Given as goal

-- what is out, and the text of what is left
abbrev pub invariant-loop-column : goal.invariant-loop-column
invariant-loop-column l =
    l.out.items ++ more_columns_text (drop l.column-index l.columns) ≡ l.fn.out.items ++ more_columns_text l.columns
