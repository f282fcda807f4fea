use Rattle.std.proofs.Common.{subst, sym}
use Rattle.std.specs.List.Sorted.{IsStrictlySortedBy}
use Rattle.ent_value.specs.Value.{row_cmp}
use Rattle.ent_rel.proofs.Keyed.{elements_ascend}
use Rattle.ent_join.proofs.made.select_index.Goals as goal

pub index_of-requires : goal.index_of-requires
index_of-requires c = subst (IsStrictlySortedBy row_cmp) (sym c.in_ok-rows.ensures) (elements_ascend row_cmp _)
