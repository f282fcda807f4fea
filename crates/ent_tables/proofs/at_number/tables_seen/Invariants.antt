use Rattle.std.proofs.Common.{◌≡◌, map, take}
use Rattle.std.specs.Arc.{arc_value}
use Rattle.ent_tables.specs.AtNumber.{seen_in}
use Rattle.ent_tables.proofs.at_number.tables_seen.Given as goal

-- the tables so far
abbrev pub invariant-loop-own : goal.invariant-loop-own
invariant-loop-own l = l.seen.items ≡ seen_in (map arc_value l.tables) (take l.own-index l.uses)
