use Rattle.std.proofs.Common.{take}
use Rattle.ent_lock.specs.Use.{Blocks, IsLeastIfAny, keyed}
use Rattle.ent_lock.proofs.lock_table.LockTable.blocker.Given as goal

-- the least that one of the requests so far is in conflict with
abbrev pub invariant-loop-table : goal.invariant-loop-table
invariant-loop-table g l =
    IsLeastIfAny (Blocks l.self l.tx (keyed g.T.TableKey.key (take l.table-index l.asked)) l.pass) l.least
