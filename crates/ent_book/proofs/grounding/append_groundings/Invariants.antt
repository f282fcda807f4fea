use Rattle.std.proofs.Common.{◌≡◌, ◌++◌, drop}
use Rattle.ent_book.specs.Report2.{groundings_text}
use Rattle.ent_book.proofs.grounding.append_groundings.Given as goal

-- what is out, and the text of what is left
abbrev pub invariant-loop-member : goal.invariant-loop-member
invariant-loop-member l =
    l.out.items ++ groundings_text l.scripts (drop l.member-index l.members)
    ≡ l.fn.out.items ++ groundings_text l.scripts l.members
