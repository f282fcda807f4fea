use Rattle.std.proofs.Common.{◌≡◌, ◌++◌, drop}
use Rattle.ent_meet.specs.Text.{members_text}
use Rattle.ent_meet.proofs.text.append_members.Given as goal

-- what is out, and the text of what is left
abbrev pub invariant-loop-member : goal.invariant-loop-member
invariant-loop-member l =
    l.out.items ++ members_text l.tickets (drop l.member-index l.members)
    ≡ l.fn.out.items ++ members_text l.tickets l.members
