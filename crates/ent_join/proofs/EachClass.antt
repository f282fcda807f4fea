-- Where nothing is asked of others, each written variable is of a class of its own.
use Rattle.std.proofs.Common.{◌≡◌, ℕ, zero, suc, ◌+◌, ◌<◌, List, [], ◌∷◌, ◌++◌, length, map, get_or, pos}
use Rattle.std.proofs.Common.{refl, sym, ap, subst, ◌∙◌, arith, inl, inr}
use Rattle.std.specs.Prelude.{Contains}
use Rattle.std.specs.List.{flat_map}
use Rattle.std.proofs.lemmas.Bool.{cases_lt}
use Rattle.std.proofs.lemmas.List.{append-nil}
use Rattle.ent_lists.proofs.Contained.{contains_none}
use Rattle.ent_value.specs.Value.{kind_of, kinds_of}
use Rattle.ent_value.specs.declared.value.Kind.{Kind}
use Rattle.ent_value.specs.declared.value.Kind.TheVariants as kinds
use Rattle.ent_value.specs.declared.value.Value.{Value}
use Rattle.ent_value.specs.declared.value.Value.TheVariants.{Int, Text}
use Rattle.ent_semantics.specs.declared.answer.Fact.{Fact}
use Rattle.ent_semantics.specs.Term.{no_value}
use Rattle.ent_semantics.specs.Form.{atom_fact}
use Rattle.ent_semantics.specs.declared.entangled.Atom.{Atom}
use Rattle.ent_semantics.specs.Choice.{all_posts}
use Rattle.ent_semantics.specs.Pool.{Posted}
use Rattle.ent_plan.specs.Plan.{AreNumbered, IsPlan, Plan, slot_kind, slot_value}
use Rattle.ent_plan.specs.declared.slot.Slot.{Slot}
use Rattle.ent_plan.specs.declared.slot.Slot.TheVariants.{Fixed, Class}

-- ---- two values of each kind

abbrev plain : Kind → Value
plain kinds.Int = Int (pos 0)
plain kinds.Text = Text []

abbrev other : Kind → Value
other kinds.Int = Int (pos 1)
other kinds.Text = Text (1 ∷ [])

plain_kind : (kind : Kind) → kind_of (plain kind) ≡ kind
plain_kind kinds.Int = refl
plain_kind kinds.Text = refl

other_kind : (kind : Kind) → kind_of (other kind) ≡ kind
other_kind kinds.Int = refl
other_kind kinds.Text = refl

they_differ : (one two : Kind) → plain one ≡ other two → ⊥
they_differ kinds.Int kinds.Int same = cc
they_differ kinds.Int kinds.Text same = cc
they_differ kinds.Text kinds.Int same = cc
they_differ kinds.Text kinds.Text same = cc

abbrev plain_values : List Kind → List Value
plain_values [] = []
plain_values (kind ∷ others) = plain kind ∷ plain_values others

-- the same values but for one place
abbrev with_other : ℕ → List Kind → List Value
with_other n [] = []
with_other zero (kind ∷ others) = other kind ∷ plain_values others
with_other (suc n) (kind ∷ others) = plain kind ∷ with_other n others

plain_kinds : (ks : List Kind) → kinds_of (plain_values ks) ≡ ks
plain_kinds [] = refl
plain_kinds (kind ∷ ks) = λ i. plain_kind kind i ∷ plain_kinds ks i

with_kinds : (n : ℕ) (ks : List Kind) → kinds_of (with_other n ks) ≡ ks
with_kinds n [] = refl
with_kinds zero (kind ∷ ks) = λ i. other_kind kind i ∷ plain_kinds ks i
with_kinds (suc n) (kind ∷ ks) = λ i. plain_kind kind i ∷ with_kinds n ks i

at_plain : (n : ℕ) (ks : List Kind) → n < length ks
    → (kind : Kind) × (get_or (plain_values ks) n no_value ≡ plain kind)
at_plain n [] below = absurd (omega arith)
at_plain zero (kind ∷ ks) below = (kind, refl)
at_plain (suc n) (kind ∷ ks) below = at_plain n ks (omega arith)

at_other : (n : ℕ) (ks : List Kind) → n < length ks
    → (kind : Kind) × (get_or (with_other n ks) n no_value ≡ other kind)
at_other n [] below = absurd (omega arith)
at_other zero (kind ∷ ks) below = (kind, refl)
at_other (suc n) (kind ∷ ks) below = at_other n ks (omega arith)

before_other : (m n : ℕ) (ks : List Kind) → m < n → n < length ks
    → (kind : Kind) × (get_or (with_other n ks) m no_value ≡ plain kind)
before_other m n [] less below = absurd (omega arith)
before_other m zero (kind ∷ ks) less below = absurd (omega arith)
before_other zero (suc n) (kind ∷ ks) less below = (kind, refl)
before_other (suc m) (suc n) (kind ∷ ks) less below = before_other m n ks (omega arith) (omega arith)

-- ---- slots of which each list of values is one

abbrev none : Slot
none = Fixed no_value

slot_at : (vs : List Value) (slots : List Slot) (n : ℕ) → n < length slots
    → get_or (map (slot_value vs) slots) n no_value ≡ slot_value vs (get_or slots n none)
slot_at vs [] n below = absurd (omega arith)
slot_at vs (slot ∷ slots) zero below = refl
slot_at vs (slot ∷ slots) (suc n) below = slot_at vs slots n (omega arith)

module _ (slots : List Slot) (ks : List Kind) (wide : length slots ≡ length ks)
    (free : (values : List Value) → kinds_of values ≡ ks
    → (vs : List Value) × (values ≡ map (slot_value vs) slots)) where
  -- what stands at a place
  stands : (values vs : List Value) (n : ℕ) (slot : Slot) → values ≡ map (slot_value vs) slots → n < length slots
      → get_or slots n none ≡ slot → get_or values n no_value ≡ slot_value vs slot
  stands values vs n slot is below at =
      ap (λ xs. get_or xs n no_value) is ∙ slot_at vs slots n below ∙ ap (slot_value vs) at

  not_fixed : (n : ℕ) (v : Value) → n < length slots → get_or slots n none ≡ Fixed v → ⊥
  not_fixed n v below at =
      let one = free (plain_values ks) (plain_kinds ks) in
      let two = free (with_other n ks) (with_kinds n ks) in
      let a = at_plain n ks (omega arith) in
      let b = at_other n ks (omega arith) in
      they_differ a.0 b.0
      (sym a.1 ∙ stands (plain_values ks) one.0 n (Fixed v) one.1 below at
      ∙ sym (stands (with_other n ks) two.0 n (Fixed v) two.1 below at) ∙ b.1)

  not_twice : (m n class : ℕ) → m < n → n < length slots → get_or slots m none ≡ Class class
      → get_or slots n none ≡ Class class → ⊥
  not_twice m n class less below first second =
      let two = free (with_other n ks) (with_kinds n ks) in
      let a = before_other m n ks less (omega arith) in
      let b = at_other n ks (omega arith) in
      they_differ a.0 b.0
      (sym a.1 ∙ stands (with_other n ks) two.0 m (Class class) two.1 (omega arith) first
      ∙ sym (stands (with_other n ks) two.0 n (Class class) two.1 below second) ∙ b.1)

-- slots that are classes, no two the same one, have as many classes
as_many : (next : ℕ) (slots : List Slot) (end : ℕ) → AreNumbered next slots end
    → ((n : ℕ) (v : Value) → n < length slots → get_or slots n none ≡ Fixed v → ⊥)
    → ((m n class : ℕ) → m < n → n < length slots → get_or slots m none ≡ Class class
    → get_or slots n none ≡ Class class → ⊥)
    → ((n class : ℕ) → n < length slots → class < next → get_or slots n none ≡ Class class → ⊥)
    → end ≡ next + length slots
as_many next [] end numbered fixed twice old = let k : next ≡ end = numbered in omega arith
as_many next (Fixed v ∷ slots) end numbered fixed twice old = absurd (fixed 0 v (omega arith) refl)
as_many next (Class class ∷ slots) end (inl before) fixed twice old =
    absurd (old 0 class (omega arith) before.0 refl)
as_many next (Class class ∷ slots) end (inr new) fixed twice old =
    let is : class ≡ next = new.0 in
    let more : end ≡ suc next + length slots =
    as_many (suc next) slots end new.1
    (λ n v below at. fixed (suc n) v (omega arith) at)
    (λ m n c less below first second. twice (suc m) (suc n) c (omega arith) (omega arith) first second)
    (λ n c below less at. elim (cases_lt c next) [
      | inl before ↦ old (suc n) c (omega arith) before at
      | inr not_before ↦
          let same : c ≡ class = omega arith in
          twice 0 (suc n) class (omega arith) (omega arith) refl (at ∙ ap Class same)
    ]) in
    omega arith

-- ---- the plan of one statement without posts

slots_width : (class_kinds : List Kind) (slots : List Slot) → length (map (slot_kind class_kinds) slots) ≡ length slots
slots_width class_kinds [] = refl
slots_width class_kinds (slot ∷ slots) = ap suc (slots_width class_kinds slots)

-- the slots of one statement
pub one_list : (class_kinds ks : List Kind) (all : List (List Slot))
    → map (map (slot_kind class_kinds)) all ≡ ks ∷ []
    → (slots : List Slot) × (all ≡ slots ∷ []) × (map (slot_kind class_kinds) slots ≡ ks)
one_list class_kinds ks [] kinded = cc
one_list class_kinds ks (slots ∷ []) kinded = (slots, refl, cc)
one_list class_kinds ks (slots ∷ others ∷ more) kinded = cc

module _ (plan : Plan) (is : IsPlan plan) (member : Posted) (alone : plan.members ≡ member ∷ [])
    (none_asked : member.statement.posts ≡ []) where
  abbrev variables : List Kind
  variables = member.statement.variables

  pub kinded : map (map (slot_kind plan.kinds)) plan.slots ≡ variables ∷ []
  kinded = is.kinded ∙ ap (map (λ (m : Posted). m.statement.variables)) alone

  no_posts : (values : List Value) → all_posts plan.members (values ∷ []) ≡ []
  no_posts values =
      ap (λ ms. all_posts ms (values ∷ [])) alone
      ∙ ap (λ (posts : List (Atom Value)). map (atom_fact (λ value. value) values) posts ++ []) none_asked

  free : (slots : List Slot) → plan.slots ≡ slots ∷ [] → (values : List Value) → kinds_of values ≡ variables
      → (vs : List Value) × (values ≡ map (slot_value vs) slots)
  free slots only values of_kinds =
      let spread = (is.exact (values ∷ [])
      (ap (λ ks. ks ∷ []) of_kinds ∙ sym (ap (map (λ (m : Posted). m.statement.variables)) alone))).0
      (λ post inside. absurd (contains_none post (subst (λ (posts : List Fact). Contains posts post) (no_posts values)
      inside))) in
      let made : values ∷ [] ≡ map (slot_value spread.0) slots ∷ [] =
      spread.2 ∙ ap (map (map (slot_value spread.0))) only in
      (spread.0, cc)

  -- it has as many classes as the statement has written variables
  pub classes_are_variables : length plan.kinds ≡ length variables
  classes_are_variables =
      let one = one_list plan.kinds variables plan.slots kinded in
      let slots = one.0 in
      let wide : length slots ≡ length variables = sym (slots_width plan.kinds slots) ∙ ap length one.2 in
      let numbered : AreNumbered 0 slots (length plan.kinds) =
      subst (λ ss. AreNumbered 0 ss (length plan.kinds)) (append-nil slots)
      (subst (λ all. AreNumbered 0 (flat_map (λ ss. ss) all) (length plan.kinds)) one.1 is.numbered) in
      let many : length plan.kinds ≡ 0 + length slots =
      as_many 0 slots (length plan.kinds) numbered
      (not_fixed slots variables wide (free slots one.1))
      (not_twice slots variables wide (free slots one.1))
      (λ n class below less at. absurd (omega arith)) in
      omega arith
