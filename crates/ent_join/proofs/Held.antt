-- Each class of a plan of ranged statements is one of an index.
use Rattle.std.proofs.Common.{◌≡◌, ℕ, suc, ◌<◌, ◌≤◌, Bool, true, false, cond, List, [], ◌∷◌, ◌++◌, length, map}
use Rattle.std.proofs.Common.{Option, Some, None, refl, sym, ap, ◌∙◌, arith, inl, inr}
use Rattle.std.specs.Prelude.{◌==◌, ◌||◌, is_some, slice_index_or}
use Rattle.std.specs.List.{AllByRecursion, flat_map, list_any}
use Rattle.std.specs.Option.{option_map}
use Rattle.std.specs.Ordering.{nat_cmp}
use Rattle.std.proofs.lemmas.Bool.{eq-eqb, eqb-true}
use Rattle.std.proofs.lemmas.Cmp.{nat_cmp_total}
use Rattle.std.proofs.lemmas.List.Folds.{list_any-append}
use Rattle.ent_lists.specs.Sets as set
use Rattle.ent_lists.specs.Laws.{any_same_set, from_list-ascending}
use Rattle.ent_lists.specs.Elements.{all_first, all_second, or_second}
use Rattle.ent_value.specs.declared.value.Kind.{Kind}
use Rattle.ent_value.specs.declared.value.Value.{Value}
use Rattle.ent_tree.specs.declared.operand.Test.{Test}
use Rattle.ent_rel.specs.Numbered.{Numbered}
use Rattle.ent_semantics.specs.Term.{no_value}
use Rattle.ent_semantics.specs.declared.entangled.Membership.{Membership}
use Rattle.ent_semantics.specs.declared.entangled.Term.{Term}
use Rattle.ent_semantics.specs.declared.entangled.Term.TheVariants as terms
use Rattle.ent_semantics.specs.Pool.{Posted}
use Rattle.ent_plan.specs.Plan.{AreNumbered, slot_kind}
use Rattle.ent_plan.specs.Tables.{sources_of, source_tables}
use Rattle.ent_plan.specs.declared.slot.Slot.{Slot}
use Rattle.ent_plan.specs.declared.slot.Slot.TheVariants.{Fixed, Class}
use Rattle.ent_join.specs.Asked.{all_indexes, left_rows, membership_index}
use Rattle.ent_join.specs.Frame.{has_class}
use Rattle.ent_join.specs.Index.{Indexed, IsIndexed, column_of}
use Rattle.ent_join.specs.Keyed.{class_numbers, is_class, term_slot}
use Rattle.ent_plan.specs.Ranged.{AreRanged, is_variable, stands_in}
use Rattle.ent_join.proofs.Deduped.{all_members}
use Rattle.ent_join.proofs.Keys.{index_is, nat_exact}
use Rattle.ent_join.proofs.Tied.{Named, SlotBelow}

-- ---- numbers

-- each class up to the last is named
numbered_has : (next : ℕ) (slots : List Slot) (end class : ℕ) → AreNumbered next slots end → next ≤ class → class < end
    → list_any (is_class class) slots ≡ true
numbered_has next [] end class h le less = absurd (omega arith)
numbered_has next (Fixed value ∷ slots) end class h le less = numbered_has next slots end class h le less
numbered_has next (Class number ∷ slots) end class (inl before) le less =
    or_second (number == class) (list_any (is_class class) slots)
    (numbered_has next slots end class before.1 le less)
numbered_has next (Class number ∷ slots) end class (inr new) le less =
    by (next == class) refl (λ l. numbered_has (suc next) slots end class new.1 l less)
  where
    by : (b : Bool) → (next == class) ≡ b → (suc next ≤ class → list_any (is_class class) slots ≡ true)
        → ((number == class) || list_any (is_class class) slots) ≡ true
    by true is more =
        ap (λ b. b || list_any (is_class class) slots)
        (eq-eqb number class (new.0 ∙ eqb-true next class is))
    by false is more =
        let other : (next ≡ class → ⊥) = λ e. let f : (next == class) ≡ true = eq-eqb next class e in cc in
        or_second (number == class) (list_any (is_class class) slots) (more (let f = other in omega (arith, f)))

pub numbered_below : (next : ℕ) (slots : List Slot) (end : ℕ) → AreNumbered next slots end
    → (next ≤ end) × AllByRecursion (SlotBelow end) slots
numbered_below next [] end h = (let k : next ≡ end = h in omega arith, tt)
numbered_below next (Fixed value ∷ slots) end h =
    let k = numbered_below next slots end h in
    (k.0, (tt, k.1))
numbered_below next (Class number ∷ slots) end (inl before) =
    let k = numbered_below next slots end before.1 in
    let l : next ≤ end = k.0 in
    let m : number < next = before.0 in
    (l, (omega arith, k.1))
numbered_below next (Class number ∷ slots) end (inr new) =
    let k = numbered_below (suc next) slots end new.1 in
    let l : suc next ≤ end = k.0 in
    let m : number ≡ next = new.0 in
    (omega arith, (omega arith, k.1))

pub all_parts : (P : Slot → Type 0) (slots : List (List Slot)) → AllByRecursion P (flat_map (λ ss. ss) slots)
    → AllByRecursion (AllByRecursion P) slots
all_parts P [] h = tt
all_parts P (ss ∷ slots) h =
    (all_first P ss (flat_map (λ ss. ss) slots) h, all_parts P slots (all_second P ss (flat_map (λ ss. ss) slots) h))

numbers_alike : (ns : List ℕ) (test : ℕ → Bool)
    → list_any test (set.ascending (set.from_list {R = nat_cmp} ns)) ≡ list_any test ns
numbers_alike ns test =
    any_same_set nat_cmp_total nat_exact test (set.ascending (set.from_list {R = nat_cmp} ns)) ns
    (from_list-ascending nat_cmp_total nat_exact (set.from_list ns))

-- each table that a sub-select names is one of those that the statements name
pub sources_are_named : (members : List Posted)
    → AllByRecursion (Named (source_tables members))
    (flat_map (λ (member : Posted). sources_of member.statement) members)
sources_are_named members =
    all_members (Named (source_tables members)) (flat_map (λ (member : Posted). sources_of member.statement) members)
    (λ n h. numbers_alike (flat_map (λ (member : Posted). sources_of member.statement) members) (λ m. m == n) ∙ h)

-- ---- classes of indexes

pub column_any : (class : ℕ) (classes : List ℕ) → is_some (column_of class classes) ≡ list_any (λ n. n == class) classes
column_any class [] = refl
column_any class (other ∷ classes) = by (other == class) (column_any class classes)
  where
    some : (o : Option ℕ) → is_some (option_map suc o) ≡ is_some o
    some None = refl
    some (Some k) = refl

    by : (b : Bool) → is_some (column_of class classes) ≡ list_any (λ n. n == class) classes
        → is_some (cond b (Some 0) (option_map suc (column_of class classes)))
        ≡ (b || list_any (λ n. n == class) classes)
    by true more = refl
    by false more = some (column_of class classes) ∙ more

class_here : (class : ℕ) (slot : Slot) (columns : List Slot) → is_class class slot ≡ true
    → list_any (λ n. n == class) (class_numbers (slot ∷ columns)) ≡ true
class_here class (Fixed value) columns h = cc
class_here class (Class number) columns h = ap (λ b. b || list_any (λ n. n == class) (class_numbers columns)) h

class_more : (class : ℕ) (slot : Slot) (columns : List Slot)
    → list_any (λ n. n == class) (class_numbers columns) ≡ true
    → list_any (λ n. n == class) (class_numbers (slot ∷ columns)) ≡ true
class_more class (Fixed value) columns h = h
class_more class (Class number) columns h = or_second (number == class) _ h

module _ (slots : List Slot) (class number : ℕ)
    (is : is_class class (slice_index_or slots number (Fixed no_value)) ≡ true) where
  term_class : (term : Term Value) → is_variable number term ≡ true → is_class class (term_slot slots term) ≡ true
  term_class (terms.Known value) h = cc
  term_class (terms.Variable other) h =
      ap (λ n. is_class class (slice_index_or slots n (Fixed no_value))) (eqb-true other number h) ∙ is

  tuple_class : (ts : List (Term Value)) → list_any (is_variable number) ts ≡ true
      → list_any (λ n. n == class) (class_numbers (map (term_slot slots) ts)) ≡ true
  tuple_class [] h = cc
  tuple_class (term ∷ ts) h = by (is_variable number term) refl (λ k. tuple_class ts k) h
    where
      by : (b : Bool) → is_variable number term ≡ b
          → (list_any (is_variable number) ts ≡ true
          → list_any (λ n. n == class) (class_numbers (map (term_slot slots) ts)) ≡ true)
          → (b || list_any (is_variable number) ts) ≡ true
          → list_any (λ n. n == class) (class_numbers (term_slot slots term ∷ map (term_slot slots) ts)) ≡ true
      by true e more h = class_here class (term_slot slots term) (map (term_slot slots) ts) (term_class term e)
      by false e more h = class_more class (term_slot slots term) (map (term_slot slots) ts) (more h)

any_through : {X Y : Type 0} (p : X → Bool) (q : Y → Bool) (f : X → Y) → ((x : X) → p x ≡ true → q (f x) ≡ true)
    → (xs : List X) → list_any p xs ≡ true → list_any q (map f xs) ≡ true
any_through p q f h [] e = cc
any_through p q f h (x ∷ xs) e = by (p x) refl (λ k. any_through p q f h xs k) e
  where
    by : (b : Bool) → p x ≡ b → (list_any p xs ≡ true → list_any q (map f xs) ≡ true)
        → (b || list_any p xs) ≡ true → (q (f x) || list_any q (map f xs)) ≡ true
    by true is more e = ap (λ b. b || list_any q (map f xs)) (h x is)
    by false is more e = or_second (q (f x)) (list_any q (map f xs)) (more e)

slot_with : (class : ℕ) (slots : List Slot) → list_any (is_class class) slots ≡ true
    → (number : ℕ) × (number < length slots)
    × (is_class class (slice_index_or slots number (Fixed no_value)) ≡ true)
slot_with class [] h = cc
slot_with class (slot ∷ slots) h = by (is_class class slot) refl (λ k. slot_with class slots k) h
  where
    by : (b : Bool) → is_class class slot ≡ b
        → (list_any (is_class class) slots ≡ true → (number : ℕ) × (number < length slots)
        × (is_class class (slice_index_or slots number (Fixed no_value)) ≡ true))
        → (b || list_any (is_class class) slots) ≡ true
        → (number : ℕ) × (number < length (slot ∷ slots))
        × (is_class class (slice_index_or (slot ∷ slots) number (Fixed no_value)) ≡ true)
    by true e more h = (0, omega arith, e)
    by false e more h =
        let k = more h in
        let l : k.0 < length slots = k.1 in
        (suc k.0, omega arith, k.2)

slots_width : (class_kinds : List Kind) (slots : List Slot) → length (map (slot_kind class_kinds) slots) ≡ length slots
slots_width class_kinds [] = refl
slots_width class_kinds (slot ∷ slots) = ap suc (slots_width class_kinds slots)

module _ (tables : List Numbered) (tests : List (Test Slot)) (class_kinds : List Kind) (class : ℕ) where
  held_in : (members : List Posted) (slots : List (List Slot))
      → map (map (slot_kind class_kinds)) slots ≡ map (λ (member : Posted). member.statement.variables) members
      → AreRanged members
      → list_any (is_class class) (flat_map (λ ss. ss) slots) ≡ true
      → list_any (has_class class) (all_indexes tables tests members slots) ≡ true
  held_in [] [] kinded ranged h = cc
  held_in [] (ss ∷ slots) kinded ranged h = cc
  held_in (member ∷ members) [] kinded ranged h = cc
  held_in (member ∷ members) (ss ∷ slots) kinded ranged h =
      list_any-append (has_class class) (map (membership_index tables tests ss) member.statement.atoms)
      (all_indexes tables tests members slots)
      ∙ by (list_any (is_class class) ss) refl (λ k. held_in members slots rest ranged.1 k)
      (sym (list_any-append (is_class class) ss (flat_map (λ ss. ss) slots)) ∙ h)
    where
      first : map (slot_kind class_kinds) ss ≡ member.statement.variables
      first = cc

      rest : map (map (slot_kind class_kinds)) slots ≡ map (λ (member : Posted). member.statement.variables) members
      rest = cc

      here : list_any (is_class class) ss ≡ true
          → list_any (has_class class) (map (membership_index tables tests ss) member.statement.atoms) ≡ true
      here e =
          let k = slot_with class ss e in
          let l : k.0 < length ss = k.1 in
          let w : length ss ≡ length member.statement.variables = sym (slots_width class_kinds ss) ∙ ap length first in
          any_through (stands_in k.0) (has_class class) (membership_index tables tests ss)
          (λ membership stands.
          column_any class (membership_index tables tests ss membership).classes
          ∙ (index_is (map (term_slot ss) membership.terms)
          (left_rows tables tests membership.select (map (term_slot ss) membership.terms))).classes
          (λ n. n == class)
          ∙ tuple_class ss class k.0 k.2 membership.terms stands)
          member.statement.atoms (ranged.0 k.0 (omega arith))

      by : (b : Bool) → list_any (is_class class) ss ≡ b
          → (list_any (is_class class) (flat_map (λ ss. ss) slots) ≡ true
          → list_any (has_class class) (all_indexes tables tests members slots) ≡ true)
          → (b || list_any (is_class class) (flat_map (λ ss. ss) slots)) ≡ true
          → (list_any (has_class class) (map (membership_index tables tests ss) member.statement.atoms)
          || list_any (has_class class) (all_indexes tables tests members slots)) ≡ true
      by true e more h =
          ap (λ b. b || list_any (has_class class) (all_indexes tables tests members slots)) (here e)
      by false e more h = or_second _ _ (more h)

  -- each class of a plan is one of an index
  pub held : (members : List Posted) (slots : List (List Slot))
      → map (map (slot_kind class_kinds)) slots ≡ map (λ (member : Posted). member.statement.variables) members
      → AreRanged members
      → AreNumbered 0 (flat_map (λ ss. ss) slots) (length class_kinds) → class < length class_kinds
      → list_any (has_class class) (all_indexes tables tests members slots) ≡ true
  held members slots kinded ranged numbered less =
      held_in members slots kinded ranged
      (numbered_has 0 (flat_map (λ ss. ss) slots) (length class_kinds) class numbered (omega arith) less)

indexed_map : (tables : List Numbered) (tests : List (Test Slot)) (ss : List Slot)
    (memberships : List (Membership Value)) (more : List Indexed) → AllByRecursion IsIndexed more
    → AllByRecursion IsIndexed (map (membership_index tables tests ss) memberships ++ more)
indexed_map tables tests ss [] more h = h
indexed_map tables tests ss (membership ∷ memberships) more h = (
  (index_is (map (term_slot ss) membership.terms)
      (left_rows tables tests membership.select (map (term_slot ss) membership.terms))).indexed,
  indexed_map tables tests ss memberships more h,
)

pub all_indexed : (tables : List Numbered) (tests : List (Test Slot)) (members : List Posted)
    (slots : List (List Slot))
    → AllByRecursion IsIndexed (all_indexes tables tests members slots)
all_indexed tables tests [] slots = tt
all_indexed tables tests (member ∷ members) [] = tt
all_indexed tables tests (member ∷ members) (ss ∷ slots) =
    indexed_map tables tests ss member.statement.atoms (all_indexes tables tests members slots)
    (all_indexed tables tests members slots)
