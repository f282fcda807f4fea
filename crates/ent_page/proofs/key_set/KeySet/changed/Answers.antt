use Rattle.std.proofs.Common.{◌≡◌, ap, sym, ◌∙◌, arith, length}
use Rattle.std.specs.Arc.{arc_value}
use Rattle.std.specs.List.{flat_map}
use Rattle.ent_lists.specs.Sets as set
use Rattle.ent_page.proofs.Changes.{changed_set}
use Rattle.ent_page.proofs.Paging.{count_set}
use Rattle.ent_page.proofs.key_set.KeySet.changed.Goals as goal

pub count_keys-len-requires : goal.count_keys-len-requires
count_keys-len-requires c =
    let is = rw (c.as_slice-pages.ensures.value, c.as_slice.ensures.value, c.as_slice-2.ensures.value)
    at c.in_ok-pages.ensures.keys in
    let all = ap (λ ps. length (flat_map arc_value ps)) c.as_slice-3.ensures.value in
    let size : set.len c.args.self.now ≡ length (flat_map arc_value c.self.inside.pages.items) =
    ap set.len (sym c.self.view_is)
    ∙ count_set (flat_map arc_value c.self.inside.pages.items) c.self.invariant.sorted in
    omega (arith, is.count, all, size, c.in_ok-added.ensures.bound, c.requires)

pub returns : goal.returns
returns c =
    let keys = flat_map arc_value c.self.inside.pages.items in
    changed_set keys c.args.removed.items c.args.added.items c.in_ok-removed.removed.items c.in_ok-added.added.items
    (flat_map arc_value c.in_ok-pages.pages.items)
    (rw (c.as_slice-pages.ensures.value, c.as_slice.ensures.value, c.as_slice-2.ensures.value)
    at c.in_ok-pages.ensures.keys)
    c.in_ok-removed.ensures.same c.in_ok-added.ensures.same
    ∙ ap (λ s. set.insert_all (set.without_all s c.args.removed.items) c.args.added.items) c.self.view_is
