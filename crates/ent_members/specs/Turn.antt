-- What a member that is ready begins, in the words of the protocol.
use Rattle.ent_protocol.specs.Lookup.{Turn}
use Rattle.ent_protocol.specs.Lookup as lookups
use Rattle.ent_members.specs.declared.turn.Turn.{Turn as Told}
use Rattle.ent_members.specs.declared.turn.Turn.TheVariants as told

abbrev pub turn_seen : Told → Turn
turn_seen told.Statement = lookups.Statement
turn_seen told.Commit = lookups.Commit
turn_seen told.Rollback = lookups.Rollback
