use Rattle.std.proofs.Common.{◌≡◌, ◌++◌, drop}
use Rattle.ent_book.specs.Report.{tables_text}
use Rattle.ent_book.specs.Tables.{tables_database}
use Rattle.ent_meet.proofs.tables.append_named.Given as goal

-- what is out, and the text of what is left
abbrev pub invariant-loop-name : goal.invariant-loop-name
invariant-loop-name l =
    l.out.items ++ tables_text (drop l.name-index l.names) (tables_database l.tables)
    ≡ l.fn.out.items ++ tables_text l.names (tables_database l.tables)
