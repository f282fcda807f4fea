use Rattle.std.proofs.Common.{◌≡◌, take}
use Rattle.ent_feed.specs.Tables.{rows_in}
use Rattle.ent_protocol.specs.Reached.{settled}
use Rattle.ent_epoch.proofs.notes.settled_tables.Given as goal

-- the first tables so far
abbrev pub invariant-loop-number : goal.invariant-loop-number
invariant-loop-number l = rows_in l.tables.items ≡ take l.number (settled l.core)
