use Rattle.std.proofs.Common.{◌≡◌, ◌++◌, drop}
use Rattle.ent_book.specs.Report2.{bindings_text}
use Rattle.ent_book.proofs.grounding.append_bindings.Given as goal

-- what is out, and the text of what is left
abbrev pub invariant-loop-name : goal.invariant-loop-name
invariant-loop-name l =
    l.out.items ++ bindings_text (drop l.name-index l.names) l.rest ≡ l.fn.out.items ++ bindings_text l.names l.values
