use Rattle.std.proofs.Common.{rules}
use Rattle.std.specs.Ordering.{is_le}
use Rattle.std.proofs.lemmas.List.Sorted.{IsPartitionPoint-from_clause}
use Rattle.ent_join.specs.Index.{begun_cmp}
use Rattle.ent_join.proofs.Between.{partitioned_le}
use Rattle.ent_join.proofs.index.count_up_to.Goals as goal

pub returns-clause-point : goal.returns-clause-point
returns-clause-point c =
    IsPartitionPoint-from_clause (λ row. is_le (begun_cmp c.args.beginning.now c.args.classes.now row))
    c.args.rows.now c.partition_point.result c.partition_point.ensures.partitioned
    (partitioned_le c.args.beginning.now c.args.classes.now c.args.rows.now c.requires.sorted c.requires.widths)
    (λ a r q k. search rules)
