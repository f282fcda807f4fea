-- Where transactions stand, in the words of the protocol.
use Rattle.ent_members.specs.Turn.{turn_seen}
use Rattle.ent_protocol.specs.Lookup.{Standing}
use Rattle.ent_protocol.specs.Lookup as lookups
use Rattle.ent_core.specs.declared.standing.Standing.{Standing as Told}
use Rattle.ent_core.specs.declared.standing.Standing.TheVariants as told

abbrev pub standing_seen : Told → Standing
standing_seen (told.Dormant runs) = lookups.Dormant runs
standing_seen (told.Ready turn) = lookups.Ready (turn_seen turn)
standing_seen told.Out = lookups.Out
standing_seen told.Posted = lookups.Posted
standing_seen told.Prepared = lookups.Prepared
standing_seen (told.Finished fate) = lookups.Finished fate
