use Rattle.std.proofs.Common.{◌≡◌, ap, sym, ◌∙◌, length, arith, true, false}
use Rattle.std.specs.Prelude.{nat_eq}
use Rattle.std.specs.Arc.{arc_value}
use Rattle.std.specs.List.{flat_map}
use Rattle.std.proofs.lemmas.Bool.Decides.{nat_tests}
use Rattle.ent_lists.specs.Sets as set
use Rattle.ent_page.specs.Key.{key_cmp}
use Rattle.ent_page.proofs.Paging.{ascending_is}
use Rattle.ent_page.proofs.key_set.KeySet.is_same.Goals as goal

pub returns-then-self-other : goal.returns-then-self-other
returns-then-self-other c =
    let mine = flat_map arc_value c.self.inside.pages.items in
    let others = flat_map arc_value c.other.inside.pages.items in (
      λ same. sym c.self.view_is
          ∙ ap (λ ks. set.from_list {R = key_cmp} ks) (ap (flat_map arc_value) (sym c.as_slice.ensures.value)
          ∙ c.are_same_keys.ensures.0 same ∙ ap (flat_map arc_value) c.as_slice-then-self-other.ensures.value)
          ∙ c.other.view_is,
      λ e. c.are_same_keys.ensures.1 (
          ap (flat_map arc_value) c.as_slice.ensures.value
          ∙ sym (ascending_is mine c.self.invariant.sorted)
          ∙ ap set.ascending (c.self.view_is ∙ e ∙ sym c.other.view_is)
          ∙ ascending_is others c.other.invariant.sorted
          ∙ ap (flat_map arc_value) (sym c.as_slice-then-self-other.ensures.value)),
    )

pub returns-else-self-other : goal.returns-else-self-other
returns-else-self-other c =
    let mine = flat_map arc_value c.self.inside.pages.items in
    let others = flat_map arc_value c.other.inside.pages.items in
    let differs : nat_eq c.self.inside.len c.other.inside.len ≡ false = grind (arith, nat_tests) in (
      λ same. let no : true ≡ false = sym same ∙ differs in absurd cc,
      λ e.
          let keys : length (flat_map arc_value c.self.inside.pages.items) ≡ length
          (flat_map arc_value c.other.inside.pages.items) =
          ap length (sym (ascending_is mine c.self.invariant.sorted)
          ∙ ap set.ascending (c.self.view_is ∙ e ∙ sym c.other.view_is)
          ∙ ascending_is others c.other.invariant.sorted) in
          let n : c.self.inside.len ≡ c.other.inside.len = c.self.invariant.count ∙ keys
          ∙ sym c.other.invariant.count in
          grind (arith, nat_tests),
    )
