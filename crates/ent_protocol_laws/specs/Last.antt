-- What becomes of members that are left at the end of a run.
use Rattle.std.specs.Prelude.{Contains}
use Rattle.ent_semantics.specs.declared.book.Fate.TheVariants.{GaveUp}
use Rattle.ent_protocol.specs.State.{State, Member}

-- a member has given up, this run being its last
abbrev pub HasGivenUp : State → Member → Type 0
HasGivenUp s member = Contains s.fates (record { tx = member.tx; fate = GaveUp member.attempt })

-- a member waits for another run, this one being counted
abbrev pub WaitsAgain : State → Member → Type 0
WaitsAgain s member = Contains s.dormant (record { tx = member.tx; runs = member.attempt })
