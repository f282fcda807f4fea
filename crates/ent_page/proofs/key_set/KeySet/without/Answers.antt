use Rattle.std.proofs.Common.{◌≡◌, ◌+◌, ◌∷◌, [], IfOk, ap, sym, subst, ◌∙◌, length, arith}
use Rattle.std.specs.Arc.{arc_value}
use Rattle.std.specs.List.{flat_map}
use Rattle.std.specs.List.Sorted.{IsStrictlySortedBy}
use Rattle.ent_lists.specs.Sets as set
use Rattle.ent_lists.specs.Laws.{contains-empty}
use Rattle.ent_page.specs.Key.{key_cmp}
use Rattle.ent_page.proofs.Sorted.{set_kept}
use Rattle.ent_page.proofs.Paging.{nothing_there, absent_at, page_sorted, cut_sorted, cut_set, cut_length}
use Rattle.ent_page.proofs.Sorted.{ascends}
use Rattle.std.proofs.Common.{false}
use Rattle.ent_page.proofs.key_set.KeySet.without.Goals as goal

pub returns-then-at-pages : goal.returns-then-at-pages
returns-then-at-pages c =
    let none = nothing_there c.as_slice-pages.result.now c.place_of-at.result c.place_of-at.ensures.within
    (omega arith) in
    let absent : set.contains c.args.self.now c.args.key.now ≡ false =
    ap (λ s. set.contains s c.args.key.now) (sym c.self.view_is)
    ∙ ap (λ zs. set.contains (set.from_list {R = key_cmp} (flat_map arc_value zs)) c.args.key.now)
    (sym c.as_slice-pages.ensures.value ∙ none) ∙ contains-empty key_cmp c.args.key.now in
    subst (λ t. IfOk c.copy.result (λ s. s ≡ t)) (set_kept c.args.self.now c.args.key.now absent) c.copy.ensures

pub invariant_of-result : goal.invariant_of-result
invariant_of-result c =
    let ps = c.as_slice-pages.result.now in
    let same = c.as_slice-pages.ensures.value in
    let x = c.index-pages-at.result in
    let sorted = subst (λ zs. IsStrictlySortedBy key_cmp (flat_map arc_value zs)) (sym same) c.self.invariant.sorted in
    let new = c.in_ok-shrunk-in-Ok.field-0.items in
    let found = rw c.deref-page.ensures at c.in-Ok.ensures.found in
    let less = rw c.deref-page.ensures at c.in_ok-others-in-Ok.ensures in
    let n : length (flat_map arc_value c.as_slice-pages.result.now) ≡ length
    (flat_map arc_value c.in_ok-shrunk-in-Ok.field-0.items) + 1 =
    cut_length arc_value ps c.place_of-at.result x c.args.key.now
    (omega arith)
    c.index-pages-at.is sorted c.in-Ok.index found.0 found.1 c.in_ok-others-in-Ok.others new
    c.in_ok-shrunk-in-Ok.ensures.keys less in
    record {
      sized = c.in_ok-shrunk-in-Ok.ensures.sized;
      sorted = cut_sorted arc_value ps c.place_of-at.result x c.args.key.now
          (omega arith)
          c.index-pages-at.is sorted c.in-Ok.index found.0 found.1 c.in_ok-others-in-Ok.others new
          c.in_ok-shrunk-in-Ok.ensures.keys less;
      count = let m : c.self.inside.len ≡ length (flat_map arc_value c.as_slice-pages.result.now) =
          c.self.invariant.count ∙ ap (λ zs. length (flat_map arc_value zs)) (sym same) in omega arith;
    }

pub returns-in_ok-shrunk-in-Ok : goal.returns-in_ok-shrunk-in-Ok
returns-in_ok-shrunk-in-Ok c =
    let ps = c.as_slice-pages.result.now in
    let same = c.as_slice-pages.ensures.value in
    let x = c.index-pages-at.result in
    let sorted = subst (λ zs. IsStrictlySortedBy key_cmp (flat_map arc_value zs)) (sym same) c.self.invariant.sorted in
    let new = c.in_ok-shrunk-in-Ok.field-0.items in
    let found = rw c.deref-page.ensures at c.in-Ok.ensures.found in
    let less = rw c.deref-page.ensures at c.in_ok-others-in-Ok.ensures in
    cut_set arc_value ps c.place_of-at.result x c.args.key.now
    (omega arith)
    c.index-pages-at.is sorted c.in-Ok.index found.0 found.1 c.in_ok-others-in-Ok.others new
    c.in_ok-shrunk-in-Ok.ensures.keys less
    ∙ ap (λ s. set.without_all s (c.args.key.now ∷ []))
    (ap (λ zs. set.from_list {R = key_cmp} (flat_map arc_value zs)) same ∙ c.self.view_is)

pub returns-in-Err : goal.returns-in-Err
returns-in-Err c =
    let ps = c.as_slice-pages.result.now in
    let same = c.as_slice-pages.ensures.value in
    let x = c.index-pages-at.result in
    let sorted = subst (λ zs. IsStrictlySortedBy key_cmp (flat_map arc_value zs)) (sym same) c.self.invariant.sorted in
    let up = page_sorted arc_value ps c.place_of-at.result x c.args.key.now (omega arith) c.index-pages-at.is sorted in
    let absent : set.contains c.args.self.now c.args.key.now ≡ false =
    sym (ap (λ zs. set.contains (set.from_list {R = key_cmp} (flat_map arc_value zs)) c.args.key.now) same
    ∙ ap (λ s. set.contains s c.args.key.now) c.self.view_is)
    ∙ absent_at arc_value ps c.place_of-at.result x c.args.key.now
    (omega arith)
    c.index-pages-at.is sorted c.place_of-at.ensures.below c.place_of-at.ensures.above c.in-Err.field-0
    (rw c.deref-page.ensures at c.in-Err.ensures.within)
    ((rw c.deref-page.ensures at c.in-Err.ensures.below) (ascends (arc_value x) up))
    ((rw c.deref-page.ensures at c.in-Err.ensures.above) (ascends (arc_value x) up)) in
    subst (λ t. IfOk c.copy-in-Err.result (λ s. s ≡ t)) (set_kept c.args.self.now c.args.key.now absent)
    c.copy-in-Err.ensures
