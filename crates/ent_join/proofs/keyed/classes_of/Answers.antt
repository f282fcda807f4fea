use Rattle.std.proofs.Common.{◌∙◌, ap}
use Rattle.std.specs.List.{dedup}
use Rattle.std.specs.Ordering.{nat_cmp}
use Rattle.std.proofs.Math.Dec.{eqb}
use Rattle.std.proofs.lemmas.Cmp.{nat_cmp_total}
use Rattle.std.proofs.lemmas.List.Filters.{dedup_is}
use Rattle.ent_lists.specs.Sets as set
use Rattle.ent_lists.specs.Laws.{ascending-from_sorted}
use Rattle.ent_join.proofs.Keys.{nat_exact, nat_ties}
use Rattle.ent_join.proofs.keyed.classes_of.Goals as goal

pub returns : goal.returns
returns c =
    dedup_is eqb _ _ c.dedup.ensures.filtered
    ∙ (λ i. dedup (λ x y. nat_ties x y i) c.sort.new.self.items)
    ∙ ascending-from_sorted nat_cmp_total nat_exact c.in_ok-classes.classes.items c.sort.new.self.items
    c.in_ok-sort.ensures.permutation c.in_ok-sort.ensures.sorted
    ∙ ap (λ ns. set.ascending (set.from_list {R = nat_cmp} ns)) c.in_ok-classes.ensures
