use Rattle.std.proofs.Common.{◌≡◌, ◌+◌, ◌∷◌, [], IfOk, ap, sym, subst, ◌∙◌, length, arith}
use Rattle.std.specs.Arc.{arc_value}
use Rattle.std.specs.List.{flat_map, insert}
use Rattle.std.specs.List.Sorted.{IsStrictlySortedBy}
use Rattle.ent_lists.specs.Sets as set
use Rattle.ent_lists.specs.Laws.{insert_there}
use Rattle.ent_page.specs.Key.{key_cmp}
use Rattle.ent_page.proofs.Sorted.{keys_total, keys_exact, one_sorted}
use Rattle.ent_page.proofs.Paging.{contains_is, page_sorted, count_set, put_sorted, put_set, put_length}
use Rattle.ent_page.proofs.Sorted.{ascends}
use Rattle.std.specs.Prelude.{true, Ok}
use Rattle.ent_page.proofs.key_set.KeySet.with.Goals as goal

pub invariant_of-result : goal.invariant_of-result
invariant_of-result c =
    let one : flat_map arc_value c.in_ok-single.field-0.items ≡ c.args.key.now ∷ [] = c.in_ok-single.ensures.keys
    ∙ c.in_ok-page.ensures ∙ (λ i. insert (c.new.ensures i) 0 (c.as_bytes.ensures i)) in
    record {
      sized = c.in_ok-single.ensures.sized;
      sorted = subst (IsStrictlySortedBy key_cmp) (sym one) (one_sorted c.args.key.now);
      count = sym (ap length one);
    }

pub overflow_add-result : goal.overflow_add-result
overflow_add-result c =
    omega (
      arith,
      c.self.invariant.count,
      count_set (flat_map arc_value c.self.inside.pages.items)
          c.self.invariant.sorted,
      ap set.len c.self.view_is,
    )

pub invariant_of-result-in-Err : goal.invariant_of-result-in-Err
invariant_of-result-in-Err c =
    let ps = c.as_slice-pages.result.now in
    let same = c.as_slice-pages.ensures.value in
    let x = c.index-pages-at.result in
    let sorted = subst (λ zs. IsStrictlySortedBy key_cmp (flat_map arc_value zs)) (sym same) c.self.invariant.sorted in
    let new = c.in_ok-spliced-in-Err.field-0.items in
    let up = page_sorted arc_value ps c.place_of-at.result x c.args.key.now (omega arith) c.index-pages-at.is sorted in
    let le = rw c.deref-page.ensures at c.in-Err.ensures.within in
    let b = (rw c.deref-page.ensures at c.in-Err.ensures.below) (ascends (arc_value x) up) in
    let a = (rw c.deref-page.ensures at c.in-Err.ensures.above) (ascends (arc_value x) up) in
    let grown = rw c.as_bytes-in-Err.ensures at (rw c.deref-page.ensures at c.in_ok-others-in-Err.ensures.keys) in
    record {
      sized = c.in_ok-spliced-in-Err.ensures.sized;
      sorted = put_sorted arc_value ps c.place_of-at.result x c.args.key.now
          (omega arith)
          c.index-pages-at.is sorted c.place_of-at.ensures.below c.place_of-at.ensures.above c.in-Err.index le b a
          (flat_map arc_value c.in_ok-others-in-Err.others.items) new c.in_ok-spliced-in-Err.ensures.keys grown;
      count = ap (λ n. n + 1) (c.self.invariant.count ∙ ap (λ zs. length (flat_map arc_value zs)) (sym same))
          ∙ sym (put_length arc_value ps c.place_of-at.result x c.args.key.now
          (omega arith)
          c.index-pages-at.is sorted c.place_of-at.ensures.below c.place_of-at.ensures.above c.in-Err.index le b a
          (flat_map arc_value c.in_ok-others-in-Err.others.items) new c.in_ok-spliced-in-Err.ensures.keys grown);
    }

pub returns-in-Ok : goal.returns-in-Ok
returns-in-Ok c =
    let ps = c.as_slice-pages.result.now in
    let same = c.as_slice-pages.ensures.value in
    let x = c.index-pages-at.result in
    let sorted = subst (λ zs. IsStrictlySortedBy key_cmp (flat_map arc_value zs)) (sym same) c.self.invariant.sorted in
    let there : set.contains c.args.self.now c.args.key.now ≡ true =
    sym (ap (λ zs. set.contains (set.from_list {R = key_cmp} (flat_map arc_value zs)) c.args.key.now) same
    ∙ ap (λ s. set.contains s c.args.key.now) c.self.view_is)
    ∙ sym (contains_is arc_value ps c.place_of-at.result x c.args.key.now
    (omega arith) c.index-pages-at.is sorted c.place_of-at.ensures.below c.place_of-at.ensures.above
    (Ok c.in-Ok.field-0) (rw c.deref-page.ensures at c.in-Ok.ensures.found) tt tt tt) in
    subst (λ t. IfOk c.copy.result (λ s. s ≡ t))
    (sym (insert_there keys_total keys_exact c.args.self.now c.args.key.now there)) c.copy.ensures

pub returns-in_ok-spliced-in-Err : goal.returns-in_ok-spliced-in-Err
returns-in_ok-spliced-in-Err c =
    let ps = c.as_slice-pages.result.now in
    let same = c.as_slice-pages.ensures.value in
    let x = c.index-pages-at.result in
    let sorted = subst (λ zs. IsStrictlySortedBy key_cmp (flat_map arc_value zs)) (sym same) c.self.invariant.sorted in
    let new = c.in_ok-spliced-in-Err.field-0.items in
    let up = page_sorted arc_value ps c.place_of-at.result x c.args.key.now (omega arith) c.index-pages-at.is sorted in
    let le = rw c.deref-page.ensures at c.in-Err.ensures.within in
    let b = (rw c.deref-page.ensures at c.in-Err.ensures.below) (ascends (arc_value x) up) in
    let a = (rw c.deref-page.ensures at c.in-Err.ensures.above) (ascends (arc_value x) up) in
    let grown = rw c.as_bytes-in-Err.ensures at (rw c.deref-page.ensures at c.in_ok-others-in-Err.ensures.keys) in
    put_set arc_value ps c.place_of-at.result x c.args.key.now
    (omega arith)
    c.index-pages-at.is sorted c.place_of-at.ensures.below c.place_of-at.ensures.above c.in-Err.index le b a
    (flat_map arc_value c.in_ok-others-in-Err.others.items) new c.in_ok-spliced-in-Err.ensures.keys grown
    ∙ ap (λ s. set.insert s c.args.key.now) (ap (λ zs. set.from_list {R = key_cmp} (flat_map arc_value zs)) same
    ∙ c.self.view_is)
