-- The ticks of a plan of one statement that asks for a row and nothing else.
use Rattle.std.proofs.Common.{◌≡◌, ℕ, ◌<◌, Bool, true, false, List, [], ◌∷◌, ◌++◌, length, map}
use Rattle.std.proofs.Common.{refl, sym, ap, subst, ◌∙◌, arith}
use Rattle.std.specs.Prelude.{◌==◌, ◌||◌, is_some}
use Rattle.std.specs.List.{AllByRecursion, flat_map, list_any}
use Rattle.ent_lists.specs.Sets as set
use Rattle.ent_lists.specs.Elements.{all_first, all_filtered}
use Rattle.ent_value.specs.Value.{kinds_of}
use Rattle.ent_value.specs.declared.value.Kind.{Kind}
use Rattle.ent_value.specs.declared.value.Value.{Value}
use Rattle.ent_tree.specs.declared.operand.Test.{Test}
use Rattle.ent_rel.specs.Numbered.{Numbered}
use Rattle.ent_semantics.specs.Database.{Rows}
use Rattle.ent_semantics.specs.Kinds.{RowsHaveKinds}
use Rattle.ent_semantics.specs.Term.{no_value}
use Rattle.ent_semantics.specs.Form.{Tables, form_rows}
use Rattle.ent_semantics.specs.declared.entangled.Membership.{Membership}
use Rattle.ent_semantics.specs.declared.entangled.Term.{Term}
use Rattle.ent_semantics.specs.Pool.{Posted}
use Rattle.ent_plan.specs.Plan.{IsPlan, Plan, slot_kind}
use Rattle.ent_plan.specs.Tables.{sources_of, source_tables}
use Rattle.ent_plan.specs.declared.slot.Slot.{Slot}
use Rattle.ent_join.specs.Alone.{is_left}
use Rattle.ent_join.specs.Asked.{all_indexes, all_tests, left_rows, membership_index, select_rows, slot_test}
use Rattle.ent_join.specs.Frame.{are_of_kinds, candidates_of, has_class, lets_through}
use Rattle.ent_join.specs.Index.{Indexed, column_of}
use Rattle.ent_join.specs.Keyed.{IsIndexOf, is_class, keys_under, term_slot}
use Rattle.ent_join.specs.Laid.{AreLaid}
use Rattle.ent_plan.specs.Ranged.{AreRanged}
use Rattle.ent_join.specs.Row.{AsksForARow}
use Rattle.ent_join.specs.Search.{AreTicks, NoDeadEnds}
use Rattle.ent_join.specs.declared.frame.Frame.{Frame}
use Rattle.ent_join.proofs.Deduped.{all_alike, all_map, all_members}
use Rattle.ent_join.proofs.EachClass.{classes_are_variables, kinded, one_list}
use Rattle.ent_join.proofs.Held.{all_parts, column_any, held, numbered_below, sources_are_named}
use Rattle.ent_join.proofs.Keys.{IsBelow, classes_alike, classes_below, index_is, keys_alike}
use Rattle.ent_join.proofs.NoDeadEnd.{Within, class_any, column_kinds, is_upto, keys_fit, no_dead_ends}
use Rattle.ent_join.proofs.NoDeadEnd.{rows_of_kinds, upto}
use Rattle.ent_join.proofs.Tied.{Named, SlotBelow, columns_below, rows_are}

-- a value for each kind
abbrev a_value_each : List Kind → List Value
a_value_each [] = []
a_value_each (kind ∷ kinds) = no_value ∷ a_value_each kinds

value_count : (kinds : List Kind) → length (a_value_each kinds) ≡ length kinds
value_count [] = refl
value_count (kind ∷ kinds) = let more = value_count kinds in omega arith

or_none : (b : Bool) → (b || false) ≡ true → b ≡ true
or_none true h = refl
or_none false h = h

module _ (plan : Plan) (is : IsPlan plan) (tables : List Numbered) (frame : Frame)
    (indexes : frame.indexes ≡ all_indexes tables (all_tests plan.members plan.slots) plan.members plan.slots)
    (tests : frame.tests ≡ all_tests plan.members plan.slots)
    (of_kinds : frame.kinds ≡ plan.kinds)
    (laid : Tables) (are : AreLaid plan.members tables laid)
    (ranged : AreRanged plan.members)
    (member : Posted) (alone : plan.members ≡ member ∷ []) (asks : AsksForARow laid member.statement) where
  abbrev ks : List Kind
  ks = plan.kinds

  abbrev names : List ℕ
  names = source_tables plan.members

  one : (slots : List Slot) × (plan.slots ≡ slots ∷ [])
      × (map (slot_kind plan.kinds) slots ≡ member.statement.variables)
  one = one_list plan.kinds member.statement.variables plan.slots (kinded plan is member alone asks.no_posts)

  abbrev columns : List Slot
  columns = map (term_slot one.0) asks.membership.terms

  abbrev index : Indexed
  index = membership_index tables [] one.0 asks.membership

  abbrev given : Rows
  given = select_rows tables asks.membership.select

  none_asked : all_tests plan.members plan.slots ≡ []
  none_asked =
      (λ i. all_tests (alone i) (one.1 i))
      ∙ ap (λ (all : List (Test (Term Value))). map (slot_test one.0) all ++ []) asks.no_tests

  the_index : all_indexes tables (all_tests plan.members plan.slots) plan.members plan.slots ≡ index ∷ []
  the_index =
      (λ i. all_indexes tables (none_asked i) (alone i) (one.1 i))
      ∙ ap (λ (atoms : List (Membership Value)). map (membership_index tables [] one.0) atoms ++ []) asks.only

  no_test : frame.tests ≡ []
  no_test = tests ∙ none_asked

  abbrev left : List (List Value)
  left = left_rows tables [] asks.membership.select columns

  indexed : IsIndexOf columns left index
  indexed = index_is columns left

  has_each : (class : ℕ) → class < length ks → list_any (λ n. n == class) index.classes ≡ true
  has_each class less =
      sym (column_any class index.classes)
      ∙ or_none (is_some (column_of class index.classes))
      (ap (list_any (has_class class)) (sym the_index)
      ∙ held tables (all_tests plan.members plan.slots) ks class plan.members plan.slots is.kinded ranged
      is.numbered less)

  slots_below : AllByRecursion (SlotBelow (length ks)) one.0
  slots_below =
      (subst (AllByRecursion (AllByRecursion (SlotBelow (length ks)))) one.1
      (all_parts (SlotBelow (length ks)) plan.slots
      (numbered_below 0 (flat_map (λ ss. ss) plan.slots) (length ks) is.numbered).1)).0

  within : AllByRecursion (Within 0 (length ks)) index.classes
  within =
      let w : length (a_value_each ks) ≡ length ks = value_count ks in
      all_map (IsBelow (a_value_each ks)) (Within 0 (length ks)) (λ n h. (omega arith, omega arith)) index.classes
      (classes_below (a_value_each ks) columns index.classes (classes_alike columns)
      (columns_below (a_value_each ks) one.0 asks.membership.terms
      (subst (λ n. AllByRecursion (SlotBelow n) one.0) (sym w) slots_below)))

  numbered : index.classes ≡ upto 0 (length ks)
  numbered =
      is_upto (length ks) 0 index.classes indexed.indexed.classes within (λ n le less. has_each n (omega arith))

  there : AllByRecursion (λ number. list_any (is_class number) columns ≡ true) index.classes
  there =
      all_members (λ number. list_any (is_class number) columns ≡ true) index.classes
      (λ n h. class_any n columns ∙ (sym (classes_alike columns (λ m. m == n)) ∙ h))

  named : AllByRecursion (Named names) asks.membership.select.sources
  named =
      let all = subst (λ (members : List Posted). AllByRecursion (Named names)
      (flat_map (λ (m : Posted). sources_of m.statement) members)) alone (sources_are_named plan.members) in
      let of_one = subst (λ (atoms : List (Membership Value)). AllByRecursion (Named names)
      (flat_map (λ (m : Membership Value). m.select.sources) atoms)) asks.only
      (all_first (Named names) (sources_of member.statement) [] all) in
      all_first (Named names) asks.membership.select.sources [] of_one

  given_kinds : RowsHaveKinds (map (slot_kind ks) columns) given
  given_kinds =
      subst (RowsHaveKinds (map (slot_kind ks) columns))
      (sym (rows_are tables laid names are [] asks.membership.select named))
      (subst (λ kinds. RowsHaveKinds kinds (form_rows (λ value. value) laid asks.membership.select))
      (column_kinds ks member.statement.variables one.0 one.2 asks.membership.terms) asks.kinds)

  fit : AllByRecursion (λ key. are_of_kinds ks key ≡ true) index.rows
  fit =
      all_alike index.rows (keys_under columns index.classes left)
      (keys_alike (keys_under columns index.classes left)) (λ key. are_of_kinds ks key)
      (keys_fit ks columns index.classes numbered there left
      (all_filtered (λ row. kinds_of row ≡ map (slot_kind ks) columns) (is_left [] columns) (set.ascending given)
      (rows_of_kinds (map (slot_kind ks) columns) given given_kinds)))

  -- the search has one tick for each written variable of an answer, and none where there is none
  pub row_ticks : (count old new : ℕ) (found : Bool) → count ≡ length plan.kinds
      → (NoDeadEnds count (candidates_of frame) (lets_through frame) → AreTicks count old new found)
      → AreTicks (length member.statement.variables) old new found
  row_ticks count old new found counted ticks =
      subst (λ n. AreTicks n old new found)
      (counted ∙ classes_are_variables plan is member alone asks.no_posts)
      (ticks (subst (λ n. NoDeadEnds n (candidates_of frame) (lets_through frame)) (sym counted)
      (no_dead_ends ks index frame (indexes ∙ the_index) no_test of_kinds indexed.indexed numbered fit)))
