use Rattle.std.proofs.Common.{◌≡◌, take}
use Rattle.ent_renewal.specs.Rows.{opening_rows}
use Rattle.ent_renewal.proofs.opening.opening_rows.Given as goal

-- the rows of the tables so far
abbrev pub invariant-loop-create : goal.invariant-loop-create
invariant-loop-create g l = l.rows ≡ opening_rows (take l.create-index l.declared) (g.T.TablesByName.database l.tables)
