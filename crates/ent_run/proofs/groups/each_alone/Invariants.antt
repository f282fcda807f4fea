use Rattle.std.proofs.Common.{◌≡◌, length, map, take}
use Rattle.ent_protocol.specs.Run.{fresh}
use Rattle.ent_run.specs.Grouped.{AreGrouped}
use Rattle.ent_run.proofs.groups.each_alone.Given as goal

abbrev pub invariant-loop-entrant : goal.invariant-loop-entrant
invariant-loop-entrant l = record {
  grouped : AreGrouped l.groups (map fresh (take l.entrant-index l.entrants));
  len : length l.groups ≡ l.entrant-index;
}
