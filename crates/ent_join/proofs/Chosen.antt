-- The least values that are let through make the least choice.
use Rattle.std.proofs.Common.{◌≡◌, ◌↔◌, ℕ, suc, Bool, true, List, [], ◌∷◌, length, map}
use Rattle.std.proofs.Common.{Option, Some, None, refl, sym, ap, subst, ◌∙◌, arith}
use Rattle.std.specs.Prelude.{◌&&◌, MatchOption}
use Rattle.std.specs.List.{AllByRecursion, flat_map, list_all, list_any}
use Rattle.std.specs.Cmp.Lexicographic.{slice_cmp}
use Rattle.ent_lists.specs.Elements.{and_both}
use Rattle.ent_value.specs.Value.{kind_of, kinds_of, value_cmp}
use Rattle.ent_value.specs.declared.value.Kind.{Kind}
use Rattle.ent_value.specs.declared.value.Value.{Value}
use Rattle.ent_value.specs.Kinds.{equal_kinds, kind_itself, same_kind}
use Rattle.ent_tree.specs.declared.operand.Test.{Test}
use Rattle.ent_rel.specs.Numbered.{Numbered}
use Rattle.ent_semantics.specs.Entangled.{Valuation}
use Rattle.ent_semantics.specs.Form.{Tables}
use Rattle.ent_semantics.specs.Choice.{AreGroundings, IsChoice, IsLeastChoice, choice_cmp}
use Rattle.ent_semantics.specs.Pool.{Posted}
use Rattle.ent_plan.specs.Plan.{IsGroundedSpread, IsPlan, Plan, slot_kind, spread}
use Rattle.ent_plan.specs.Tables.{source_tables}
use Rattle.ent_plan.specs.declared.slot.Slot.{Slot}
use Rattle.ent_join.specs.Asked.{all_indexes, all_tests}
use Rattle.ent_join.specs.Index.{IsIndexed, goes_on}
use Rattle.ent_join.specs.Laid.{AreLaid}
use Rattle.ent_plan.specs.Ranged.{AreRanged}
use Rattle.ent_join.specs.Frame.{IsFrame, are_of_kinds, candidates_of, has_class, lets_through, may_hold}
use Rattle.ent_join.specs.Search.{IsGuide, IsLeast, NonePasses}
use Rattle.ent_join.specs.declared.frame.Frame.{Frame}
use Rattle.ent_join.proofs.Guiding.{frame_guides}
use Rattle.ent_join.proofs.Held.{all_indexed, all_parts, held, numbered_below, sources_are_named}
use Rattle.ent_join.proofs.Tied.{SlotBelow, groundings_from, groundings_to, tests_to}

kinds_from : (class_kinds : List Kind) (values : List Value) → length values ≡ length class_kinds
    → are_of_kinds class_kinds values ≡ true → kinds_of values ≡ class_kinds
kinds_from [] [] w h = refl
kinds_from (kind ∷ class_kinds) [] w h = absurd (omega arith)
kinds_from [] (value ∷ values) w h = cc
kinds_from (kind ∷ class_kinds) (value ∷ values) w h =
    let k = and_both (same_kind (kind_of value) kind) (are_of_kinds class_kinds values) h in
    let first : kind_of value ≡ kind = equal_kinds (kind_of value) kind k.0 in
    let rest : kinds_of values ≡ class_kinds = kinds_from class_kinds values (omega arith) k.1 in
    λ i. first i ∷ rest i

pub kinds_to : (values : List Value) → are_of_kinds (kinds_of values) values ≡ true
kinds_to [] = refl
kinds_to (value ∷ values) =
    ap (λ b. b && are_of_kinds (kinds_of values) values) (kind_itself (kind_of value)) ∙ kinds_to values

kinds_width : (values : List Value) → length (kinds_of values) ≡ length values
kinds_width [] = refl
kinds_width (value ∷ values) = ap suc (kinds_width values)

module _ (plan : Plan) (is : IsPlan plan) (tables : List Numbered) (frame : Frame)
    (indexes : frame.indexes ≡ all_indexes tables (all_tests plan.members plan.slots) plan.members plan.slots)
    (tests : frame.tests ≡ all_tests plan.members plan.slots)
    (of_kinds : frame.kinds ≡ plan.kinds) where
  abbrev count : ℕ
  count = length plan.kinds

  abbrev checks : List (Test Slot)
  checks = all_tests plan.members plan.slots

  pub is_frame : AreRanged plan.members → IsFrame count frame
  is_frame ranged = record {
    indexed = subst (AllByRecursion IsIndexed) (sym indexes) (all_indexed tables checks plan.members plan.slots);
    held = λ class less.
        ap (list_any (has_class class)) indexes
        ∙ held tables checks plan.kinds class plan.members plan.slots is.kinded ranged is.numbered less;
  }

  pub guides : AreRanged plan.members → IsGuide count (candidates_of frame) (lets_through frame)
  guides ranged = frame_guides count frame (is_frame ranged)

  -- ---- what is let through

  passes_is : (values : List Value)
      → lets_through frame values
      ≡ (are_of_kinds plan.kinds values
      && (list_all (goes_on values) (all_indexes tables checks plan.members plan.slots)
      && list_all (may_hold values) (all_tests plan.members plan.slots)))
  passes_is values =
      λ i. are_of_kinds (of_kinds i) values
      && (list_all (goes_on values) (indexes i) && list_all (may_hold values) (tests i))

  below : (values : List Value) → length values ≡ count
      → AllByRecursion (AllByRecursion (SlotBelow (length values))) plan.slots
  below values w =
      subst (λ n. AllByRecursion (AllByRecursion (SlotBelow n)) plan.slots) (sym w)
      (all_parts (SlotBelow count) plan.slots
      (numbered_below 0 (flat_map (λ ss. ss) plan.slots) count is.numbered).1)

  module _ (laid : Tables) (are : AreLaid plan.members tables laid) where
    grounded : (values : List Value) → length values ≡ count → lets_through frame values ≡ true
        → (kinds_of values ≡ plan.kinds) × AreGroundings laid plan.members (spread plan values)
    grounded values w h =
        let k = and_both _ _ (sym (passes_is values) ∙ h) in
        let same : kinds_of values ≡ plan.kinds = kinds_from plan.kinds values w k.0 in
        let kinded : map (map (slot_kind (kinds_of values))) plan.slots
        ≡ map (λ (member : Posted). member.statement.variables) plan.members =
        ap (λ ks. map (map (slot_kind ks)) plan.slots) same ∙ is.kinded in (
          same,
          groundings_from tables laid (source_tables plan.members) are values checks (and_both _ _ k.1).1 plan.members
              plan.slots kinded (below values w) (sources_are_named plan.members) k.1,
        )

    let_through : (values : List Value) → kinds_of values ≡ plan.kinds
        → AreGroundings laid plan.members (spread plan values) → lets_through frame values ≡ true
    let_through values same g =
        let w : length values ≡ count = sym (kinds_width values) ∙ ap length same in
        let of : are_of_kinds plan.kinds values ≡ true =
        ap (λ ks. are_of_kinds ks values) (sym same) ∙ kinds_to values in
        passes_is values
        ∙ (λ i. of i
        && (list_all (goes_on values) (all_indexes tables checks plan.members plan.slots)
        && list_all (may_hold values) (all_tests plan.members plan.slots)))
        ∙ groundings_to tables laid (source_tables plan.members) are values checks
        (tests_to tables laid (source_tables plan.members) are values plan.members plan.slots (below values w) g)
        plan.members plan.slots (below values w) (sources_are_named plan.members) g

    module _ (choices : (groundings : List Valuation)
        → IsChoice laid plan.members groundings ↔ IsGroundedSpread laid plan groundings)
        (order : (others values : List Value) → length others ≡ count → length values ≡ count
        → choice_cmp (spread plan others) (spread plan values) ≡ slice_cmp value_cmp others values) where
      pub chosen : (values : List Value) → IsLeast count (lets_through frame) values
          → IsLeastChoice laid plan.members (spread plan values)
      chosen values found =
          let g = grounded values found.width found.passing in
          record {
            choice = (choices (spread plan values)).1 (values, g.0, refl, g.1);
            least = λ others other less.
                let o = (choices others).0 other in
                let w : length o.0 ≡ count = sym (kinds_width o.0) ∙ ap length o.1 in
                let rows : AreGroundings laid plan.members (spread plan o.0) = o.3 in
                found.least o.0 w (let_through o.0 o.1 rows)
                (sym (order o.0 values w found.width)
                ∙ ap (λ gs. choice_cmp gs (spread plan values)) (sym o.2) ∙ less);
          }

      pub none_chosen : NonePasses count (lets_through frame)
          → (others : List Valuation) → IsChoice laid plan.members others → ⊥
      none_chosen none others other =
          let o = (choices others).0 other in
          let w : length o.0 ≡ count = sym (kinds_width o.0) ∙ ap length o.1 in
          none o.0 w (let_through o.0 o.1 o.3)

-- what a search found
pub none_found : (count other : ℕ) (passes : List Value → Bool) (found : Option (List Value)) → count ≡ other
    → found ≡ None → MatchOption found (NonePasses count passes) (IsLeast count passes) → NonePasses other passes
none_found count other passes None e is h = subst (λ n. NonePasses n passes) e h
none_found count other passes (Some values) e is h = cc

pub least_found : (count other : ℕ) (passes : List Value → Bool) (found : Option (List Value)) (values : List Value)
    → count ≡ other → found ≡ Some values → MatchOption found (NonePasses count passes) (IsLeast count passes)
    → IsLeast other passes values
least_found count other passes None values e is h = cc
least_found count other passes (Some row) values e is h =
    let same : row ≡ values = cc in
    subst (λ n. IsLeast n passes values) e (subst (IsLeast count passes) same h)
