-- What comes next, in the words of the protocol.
use Rattle.std.specs.Arc.{arc_value}
use Rattle.ent_protocol.specs.Member.{Next}
use Rattle.ent_protocol.specs.Member as members
use Rattle.ent_members.specs.declared.next.Next.{Next as Told}
use Rattle.ent_members.specs.declared.next.Next.TheVariants as told

abbrev pub next_seen : Told → Next
next_seen (told.Ordinary statement) = members.Ordinary statement
next_seen (told.Asks statement) = members.Asks (arc_value statement)
next_seen told.Commits = members.Commits
next_seen told.RollsBack = members.RollsBack
