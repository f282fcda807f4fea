use Rattle.std.proofs.Common.{ap, arith}
use Rattle.ent_lists.specs.Sets as set
use Rattle.ent_lists.specs.Laws.{len-empty}
use Rattle.ent_page.specs.Key.{key_cmp}
use Rattle.ent_rel.proofs.Keyed.{rows_empty, hold_empty}
use Rattle.ent_rel.proofs.table.Table.new.Goals as goal

pub invariant_of-result : goal.invariant_of-result
invariant_of-result c = record {
  fitting = hold_empty c.args.kinds.items c.new-keys.result c.new-keys.ensures;
  limit =
      omega (arith, ap set.len c.new-keys.ensures, len-empty key_cmp);
}

pub returns : goal.returns
returns c = λ i. record {
  kinds = c.args.kinds.items;
  rows = rows_empty c.args.kinds.items c.new-keys.result
      c.new-keys.ensures i;
}
