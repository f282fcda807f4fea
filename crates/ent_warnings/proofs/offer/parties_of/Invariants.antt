use Rattle.std.proofs.Common.{◌≡◌, map, take}
use Rattle.ent_meetings.specs.Party.{party_of}
use Rattle.ent_warnings.proofs.offer.parties_of.Given as goal

abbrev pub invariant-loop-script : goal.invariant-loop-script
invariant-loop-script l = l.parties.items ≡ map party_of (take l.script-index l.scripts)
