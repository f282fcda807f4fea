use Rattle.std.proofs.Common.{nat_lt, rules}
use Rattle.std.proofs.lemmas.List.Sorted.{IsPartitionPoint-from_clause, IsPartitionedBy-ltb}
use Rattle.ent_group.proofs.Labels.{count_before, in_order}
use Rattle.ent_group.proofs.groups.count_below.Goals as goal

pub returns : goal.returns
returns c =
    let ms = c.args.memberships.now in
    let parted = IsPartitionedBy-ltb (λ m. m.member) ms c.args.tx (in_order ms c.requires) in
    let point = IsPartitionPoint-from_clause (λ m. nat_lt m.member c.args.tx) ms c.partition_point.result
    c.partition_point.ensures.partitioned parted (λ a r q k. search rules) in
    count_before (λ m. nat_lt m.member c.args.tx) ms c.partition_point.result c.partition_point.ensures.bound point.0
    point.1
