use Rattle.std.proofs.Common.{◌∙◌}
use Rattle.ent_page.proofs.Paging.{moved_from, loaded_sorted, loaded_set, deduped}
use Rattle.ent_page.proofs.key_set.sorted_keys.Goals as goal

pub returns-clause-sorted : goal.returns-clause-sorted
returns-clause-sorted c =
    let keys = c.args.keys.items in
    let sorted = c.sort.new.self in
    loaded_sorted keys sorted c.dedup.new.self.items
    (moved_from keys c.as_mut_slice.result.now sorted c.as_mut_slice.ensures.value c.in_ok-sort.ensures.permutation)
    c.in_ok-sort.ensures.sorted
    (deduped c.args.keys.len sorted keys c.dedup.new.self.items (c.in_ok-sort.ensures.len ∙ c.as_mut_slice.ensures.len)
    c.dedup.ensures.filtered)

pub returns-clause-same : goal.returns-clause-same
returns-clause-same c =
    let keys = c.args.keys.items in
    let sorted = c.sort.new.self in
    loaded_set keys sorted c.dedup.new.self.items
    (moved_from keys c.as_mut_slice.result.now sorted c.as_mut_slice.ensures.value c.in_ok-sort.ensures.permutation)
    c.in_ok-sort.ensures.sorted
    (deduped c.args.keys.len sorted keys c.dedup.new.self.items (c.in_ok-sort.ensures.len ∙ c.as_mut_slice.ensures.len)
    c.dedup.ensures.filtered)
