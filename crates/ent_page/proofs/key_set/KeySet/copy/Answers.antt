use Rattle.std.proofs.Common.{ap, sym, subst, ◌∙◌, length}
use Rattle.std.specs.Arc.{arc_value}
use Rattle.std.specs.List.Sorted.{IsStrictlySortedBy}
use Rattle.ent_lists.specs.Sets as set
use Rattle.ent_page.specs.Key.{key_cmp}
use Rattle.ent_page.proofs.Paging.{copied, same_keys, same_sizes}
use Rattle.ent_page.proofs.key_set.KeySet.copy.Goals as goal

pub invariant_of-result : goal.invariant_of-result
invariant_of-result c =
    let mine = c.self.inside.pages.items in
    let new = c.push_shared.new.new.items in
    let same =
    copied arc_value new c.in_ok-pages.pages.items mine c.as_slice.result.now c.in_ok-pages.ensures.items
    c.as_slice.ensures.value c.in_ok-push_shared.ensures in
    let keys = same_keys arc_value new mine same in
    record {
      sized = same_sizes arc_value new mine same c.self.invariant.sized;
      sorted = subst (IsStrictlySortedBy key_cmp) (sym keys) c.self.invariant.sorted;
      count = c.self.invariant.count ∙ ap length (sym keys);
    }

pub returns : goal.returns
returns c =
    let mine = c.self.inside.pages.items in
    let new = c.push_shared.new.new.items in
    let same =
    copied arc_value new c.in_ok-pages.pages.items mine c.as_slice.result.now c.in_ok-pages.ensures.items
    c.as_slice.ensures.value c.in_ok-push_shared.ensures in
    ap (λ ks. set.from_list {R = key_cmp} ks) (same_keys arc_value new mine same) ∙ c.self.view_is
