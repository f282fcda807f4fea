use Rattle.std.proofs.Common.{◌≡◌, ◌++◌, drop}
use Rattle.ent_book.specs.Report2.{opening_text}
use Rattle.ent_book.proofs.opening.append_opening.Given as goal

-- what is out, and the text of what is left
abbrev pub invariant-loop-name : goal.invariant-loop-name
invariant-loop-name l =
    l.out.items ++ opening_text l.opening (drop l.name-index l.names) ≡ l.fn.out.items ++ opening_text l.opening l.names
