-- Where a class has no value that all indexes of it alone have, nothing is let through.
use Rattle.std.proofs.Common.{◌≡◌, ℕ, ◌<◌, Bool, true, false, cond, List, [], ◌∷◌, length, refl, sym, ap, subst, ◌∙◌}
use Rattle.std.proofs.Common.{Some}
use Rattle.std.specs.Prelude.{not, slice_get}
use Rattle.std.specs.List.{list_all, list_any}
use Rattle.std.specs.Ordering.{is_eq, ordering_then}
use Rattle.std.specs.declared.cmp.Ordering.TheVariants.{Equal}
use Rattle.std.proofs.lemmas.Bool.{eqb-true}
use Rattle.ent_lists.specs.Elements.{and_both}
use Rattle.ent_lists.proofs.Orders.{equal_then, is_equal}
use Rattle.ent_value.specs.Value.{value_cmp}
use Rattle.ent_value.specs.Order.{exact_values}
use Rattle.ent_value.specs.declared.value.Value.{Value}
use Rattle.ent_join.specs.Domain.{is_alone, is_empty_domain, may_have}
use Rattle.ent_join.specs.Frame.{are_of_kinds, lets_through, may_hold}
use Rattle.ent_join.specs.Index.{Indexed, begins_so, begun_cmp, goes_on, known_cmp}
use Rattle.ent_join.specs.Search.{NonePasses}
use Rattle.ent_join.specs.declared.frame.Frame.{Frame}
use Rattle.ent_join.proofs.Begun.{get_there}
use Rattle.ent_join.proofs.Guiding.{all_kept, any_kept}
use Rattle.ent_join.proofs.Steps.{value_cmp-self}

alone_is : (class : ℕ) (classes : List ℕ) → is_alone class classes ≡ true → classes ≡ class ∷ []
alone_is class [] h = cc
alone_is class (other ∷ []) h = ap (λ n. n ∷ []) (eqb-true other class h)
alone_is class (other ∷ another ∷ classes) h = cc

module _ (values : List Value) (class : ℕ) (known : Value) (there : slice_get values class ≡ Some known) where
  -- a row of a class alone that begins as a list does has the list's value
  begun_is : (value : Value) (row : List Value) → begins_so values (class ∷ []) (value ∷ row) ≡ true → value ≡ known
  begun_is value row h =
      exact_values value known
      (equal_then (value_cmp value known) (begun_cmp values [] row)
      (subst (λ o. known_cmp o value (begun_cmp values [] row) ≡ Equal) there (is_equal _ h))).0

  -- so two such rows begin alike
  alike : (row other : List Value) → begins_so values (class ∷ []) row ≡ true
      → begins_so values (class ∷ []) other ≡ true → begins_so row (0 ∷ []) other ≡ true
  alike row [] h k = refl
  alike [] (value ∷ other) h k = refl
  alike (first ∷ row) (value ∷ other) h k =
      let same : value ≡ first = begun_is value other k ∙ sym (begun_is first row h) in
      let tie : value_cmp value first ≡ Equal = ap (λ v. value_cmp v first) same ∙ value_cmp-self first in
      ap (λ o. is_eq (ordering_then o (begun_cmp (first ∷ row) [] other))) tie

  had : (key : List Value) (index : Indexed) → begins_so values (class ∷ []) key ≡ true
      → goes_on values index ≡ true → may_have class key index ≡ true
  had key index h goes = by (is_alone class index.classes) refl
    where
      by : (b : Bool) → is_alone class index.classes ≡ b
          → cond b (list_any (begins_so key (0 ∷ [])) index.rows) true ≡ true
      by false is = refl
      by true is =
          any_kept (begins_so values (class ∷ [])) (begins_so key (0 ∷ [])) (λ other k. alike key other h k) index.rows
          (ap (λ classes. list_any (begins_so values classes) index.rows) (sym (alone_is class index.classes is))
          ∙ goes)

  not_empty : (indexes leaders : List Indexed) → list_all (goes_on values) indexes ≡ true
      → list_all (goes_on values) leaders ≡ true → is_empty_domain indexes class leaders ≡ true → ⊥
  not_empty indexes [] all goes h = cc
  not_empty indexes (leader ∷ leaders) all goes h =
      let k = and_both (goes_on values leader) (list_all (goes_on values) leaders) goes in
      by (is_alone class leader.classes) refl k.0 (λ e. not_empty indexes leaders all k.1 e) h
    where
      by : (b : Bool) → is_alone class leader.classes ≡ b → goes_on values leader ≡ true
          → (is_empty_domain indexes class leaders ≡ true → ⊥)
          → cond b (not (list_any (λ key. list_all (may_have class key) indexes) leader.rows))
          (is_empty_domain indexes class leaders) ≡ true → ⊥
      by false is begun more e = more e
      by true is begun more e =
          let some : list_any (λ key. list_all (may_have class key) indexes) leader.rows ≡ true =
          any_kept (begins_so values (class ∷ [])) (λ key. list_all (may_have class key) indexes)
          (λ key same. all_kept (goes_on values) (may_have class key) (λ index goes. had key index same goes) indexes
          all) leader.rows
          (ap (λ classes. list_any (begins_so values classes) leader.rows)
          (sym (alone_is class leader.classes is)) ∙ begun) in
          let f : false ≡ true = sym (ap not some) ∙ e in
          cc

pub none_passes : (count class : ℕ) (frame : Frame) → class < count
    → is_empty_domain frame.indexes class frame.indexes ≡ true → NonePasses count (lets_through frame)
none_passes count class frame less empty values wide passes =
    let goes : list_all (goes_on values) frame.indexes ≡ true =
    (and_both (list_all (goes_on values) frame.indexes) (list_all (may_hold values) frame.tests)
    (and_both (are_of_kinds frame.kinds values) _ passes).1).0 in
    let known = get_there values class (subst (λ n. class < n) (sym wide) less) in
    not_empty values class known.0 known.1 frame.indexes frame.indexes goes goes empty
