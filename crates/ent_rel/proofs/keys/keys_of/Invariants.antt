use Rattle.std.proofs.Common.{◌≡◌, map, take, All}
use Rattle.ent_page.specs.Key.{key_of, AreStorable}
use Rattle.ent_rel.proofs.keys.keys_of.Given as goal

abbrev pub invariant-loop-row : goal.invariant-loop-row
invariant-loop-row l = record {
  keys : l.keys.items ≡ map key_of (take l.row-index l.rows);
  stored : All AreStorable
      (take l.row-index l.rows);
}
