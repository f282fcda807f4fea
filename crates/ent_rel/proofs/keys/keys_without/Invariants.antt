use Rattle.std.proofs.Common.{◌≡◌, drop}
use Rattle.ent_lists.specs.Sets as set
use Rattle.ent_rel.specs.Kept.{rows_of, HoldRows}
use Rattle.ent_rel.proofs.keys.keys_without.Given as goal

-- the keys that are left without the rows that are left are those that are wanted
abbrev pub invariant-loop-row : goal.invariant-loop-row
invariant-loop-row l = record {
  rows : set.without_all (rows_of l.kinds l.keys) (drop l.row-index l.rows) ≡ set.without_all
      (rows_of l.kinds l.fn.keys) l.rows;
  hold : HoldRows l.kinds l.keys;
}
