use Rattle.std.proofs.Common.{◌≡◌, ◌≤◌, ◌*◌, take}
use Rattle.ent_value.specs.declared.limits.TheConstants.{MOST_ROWS}
use Rattle.ent_renewal.specs.Renewal.{rows_together}
use Rattle.ent_renewal.proofs.table.rows_together.Given as goal

-- the rows so far, no more than tables of their greatest size have
abbrev pub invariant-loop-create : goal.invariant-loop-create
invariant-loop-create g l = record {
  rows : l.total ≡ rows_together (take l.create-index l.declared) (g.T.TablesByName.database l.tables);
  limit : l.total ≤ l.create-index * MOST_ROWS;
}
