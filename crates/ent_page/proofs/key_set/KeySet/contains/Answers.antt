use Rattle.std.proofs.Common.{◌≡◌, ap, sym, subst, ◌∙◌, arith, false, length}
use Rattle.std.specs.Prelude.{nat_lt}
use Rattle.std.specs.Arc.{arc_value}
use Rattle.std.specs.List.{flat_map}
use Rattle.std.specs.List.Sorted.{IsStrictlySortedBy}
use Rattle.std.proofs.lemmas.Bool.Decides.{nat_tests}
use Rattle.ent_lists.specs.Sets as set
use Rattle.ent_lists.specs.Laws.{contains-empty}
use Rattle.ent_page.specs.Key.{key_cmp}
use Rattle.ent_page.proofs.Paging.{contains_is, nothing_there}
use Rattle.ent_page.proofs.key_set.KeySet.contains.Goals as goal

pub returns-then-at-pages : goal.returns-then-at-pages
returns-then-at-pages g c =
    let ps = c.as_slice-pages.result.now in
    let same = c.as_slice-pages.ensures.value in
    let sorted = subst (λ zs. IsStrictlySortedBy key_cmp (flat_map arc_value zs)) (sym same) c.self.invariant.sorted in
    c.is_ok.ensures.value
    ∙ contains_is arc_value ps c.place_of-at.result c.index-pages-at.result (g.P.Probe.bytes c.args.key.now)
    (omega arith) c.index-pages-at.is sorted c.place_of-at.ensures.below c.place_of-at.ensures.above c.search.result
    (rw c.deref.ensures at c.search.ensures.found) (rw c.deref.ensures at c.search.ensures.within)
    (rw c.deref.ensures at c.search.ensures.below) (rw c.deref.ensures at c.search.ensures.above)
    ∙ ap (λ zs. set.contains (set.from_list {R = key_cmp} (flat_map arc_value zs)) (g.P.Probe.bytes c.args.key.now))
    same ∙ ap (λ s. set.contains s (g.P.Probe.bytes c.args.key.now)) c.self.view_is

pub returns-else-at-pages : goal.returns-else-at-pages
returns-else-at-pages g c =
    let none = nothing_there c.as_slice-pages.result.now c.place_of-at.result c.place_of-at.ensures.within
    (omega arith) in
    let beyond : nat_lt c.place_of-at.result (length c.as_slice-pages.result.now) ≡ false = grind (arith, nat_tests) in
    beyond
    ∙ sym (ap (λ s. set.contains s (g.P.Probe.bytes c.args.key.now)) (sym c.self.view_is)
    ∙ ap (λ zs. set.contains (set.from_list {R = key_cmp} (flat_map arc_value zs)) (g.P.Probe.bytes c.args.key.now))
    (sym c.as_slice-pages.ensures.value ∙ none) ∙ contains-empty key_cmp (g.P.Probe.bytes c.args.key.now))
