-- Choices are in the order of the values of the classes, which are numbered by first appearance.
use Rattle.std.proofs.Common.{◌≡◌, ℕ, zero, suc, ◌<◌, ◌≤◌, inl, inr, List, [], ◌∷◌, ◌++◌, map, length, get_or}
use Rattle.std.proofs.Common.{drop, refl, sym, ◌∙◌, ap, subst, arith, add-one}
use Rattle.std.specs.Prelude.{Contains}
use Rattle.std.specs.List.{flat_map}
use Rattle.std.specs.Cmp.Lexicographic.{slice_cmp}
use Rattle.std.specs.Ordering.{ordering_then}
use Rattle.std.specs.declared.cmp.Ordering.{Ordering}
use Rattle.std.specs.declared.cmp.Ordering.TheVariants.{Less, Equal, Greater}
use Rattle.std.proofs.lemmas.Bool.{cases_lt}
use Rattle.std.proofs.lemmas.Cmp.{tied_itself}
use Rattle.std.proofs.lemmas.List.{drop_all, drop_more}
use Rattle.ent_value.specs.Order.{values_total, exact_values}
use Rattle.ent_value.specs.Value.{value_cmp, row_cmp}
use Rattle.ent_value.specs.declared.value.Value.{Value}
use Rattle.ent_semantics.specs.Term.{no_value}
use Rattle.ent_semantics.specs.Choice.{choice_cmp}
use Rattle.ent_plan.specs.Plan.{Plan, IsPlan, AreNumbered, all_slots, slot_value, spread}
use Rattle.ent_plan.specs.declared.slot.Slot.{Slot}
use Rattle.ent_plan.specs.declared.slot.Slot.TheVariants.{Fixed, Class}

-- ---- numbers

pub numbered_grows : (a : ℕ) (slots : List Slot) (b : ℕ) → AreNumbered a slots b → a ≤ b
numbered_grows a [] b numbered = omega arith
numbered_grows a (Fixed value ∷ slots) b numbered = numbered_grows a slots b numbered
numbered_grows a (Class n ∷ slots) b (inl old) = numbered_grows a slots b old.1
numbered_grows a (Class n ∷ slots) b (inr new) = (let l = numbered_grows (suc a) slots b new.1 in omega arith)

numbered_within : (a : ℕ) (slots : List Slot) (b k n : ℕ) → AreNumbered a slots b → k < length slots
    → get_or slots k (Class n) ≡ Class n → n < b
numbered_within a [] b k n numbered below is = absurd (omega arith)
numbered_within a (Fixed value ∷ slots) b zero n numbered below is = cc
numbered_within a (Fixed value ∷ slots) b (suc k) n numbered below is =
    numbered_within a slots b k n numbered (omega arith) is
numbered_within a (Class m ∷ slots) b zero n (inl old) below is =
    let same : m ≡ n = cc in
    let l = numbered_grows a slots b old.1 in
    let here = old.0 in
    omega arith
numbered_within a (Class m ∷ slots) b zero n (inr new) below is =
    let same : m ≡ n = cc in
    let l = numbered_grows (suc a) slots b new.1 in
    let here = new.0 in
    omega arith
numbered_within a (Class m ∷ slots) b (suc k) n (inl old) below is =
    numbered_within a slots b k n old.1 (omega arith) is
numbered_within a (Class m ∷ slots) b (suc k) n (inr new) below is =
    numbered_within (suc a) slots b k n new.1 (omega arith) is

pub within : (plan : Plan) (number : ℕ) → IsPlan plan → Contains (all_slots plan) (Class number)
    → number < length plan.kinds
within plan number is (k, below, here) =
    numbered_within 0 (all_slots plan) (length plan.kinds) k number is.numbered below here

-- ---- rows side by side

then_assoc : (a b c : Ordering) → ordering_then a (ordering_then b c) ≡ ordering_then (ordering_then a b) c
then_assoc Less b c = refl
then_assoc Equal b c = refl
then_assoc Greater b c = refl

module _ (f g : Slot → Value) where
  beside : (row rest : List Slot) → slice_cmp value_cmp (map f (row ++ rest)) (map g (row ++ rest))
      ≡ ordering_then (slice_cmp value_cmp (map f row) (map g row)) (slice_cmp value_cmp (map f rest) (map g rest))
  beside [] rest = refl
  beside (s ∷ row) rest =
      ap (ordering_then (value_cmp (f s) (g s))) (beside row rest)
      ∙ then_assoc (value_cmp (f s) (g s)) (slice_cmp value_cmp (map f row) (map g row))
      (slice_cmp value_cmp (map f rest) (map g rest))

  flattened : (rows : List (List Slot)) → slice_cmp row_cmp (map (map f) rows) (map (map g) rows)
      ≡ slice_cmp value_cmp (map f (flat_map (λ slots. slots) rows)) (map g (flat_map (λ slots. slots) rows))
  flattened [] = refl
  flattened (row ∷ rows) =
      ap (ordering_then (slice_cmp value_cmp (map f row) (map g row))) (flattened rows)
      ∙ sym (beside row (flat_map (λ slots. slots) rows))

-- ---- by first appearance

-- the first n values are the same
abbrev Agree : ℕ → List Value → List Value → Type 0
Agree n others values = (k : ℕ) → k < n → get_or others k no_value ≡ get_or values k no_value

agree_more : (n : ℕ) (others values : List Value) → Agree n others values
    → get_or others n no_value ≡ get_or values n no_value → Agree (suc n) others values
agree_more n others values agree here k below =
    elim (cases_lt k n) [
      | inl before ↦ agree k before
      | inr not_before ↦
          let same : n ≡ k = omega arith in
          subst (λ i. get_or others i no_value ≡ get_or values i no_value) same here
    ]

rest_is : (values : List Value) (n : ℕ) → n < length values
    → drop n values ≡ get_or values n no_value ∷ drop (suc n) values
rest_is values n below = drop_more values n no_value below
    ∙ ap (λ i. get_or values n no_value ∷ drop i values) (add-one n)

module _ (others values : List Value) where
  abbrev compared : List Slot → Ordering
  compared slots = slice_cmp value_cmp (map (slot_value others) slots) (map (slot_value values) slots)

  abbrev rests : ℕ → Ordering
  rests n = slice_cmp value_cmp (drop n others) (drop n values)

  tied_first : (o : Ordering) (x y : Value) (rest rest' : Ordering) → value_cmp x y ≡ o
      → (x ≡ y → rest ≡ rest') → ordering_then o rest ≡ ordering_then o rest'
  tied_first Less x y rest rest' is go = refl
  tied_first Equal x y rest rest' is go = go (exact_values x y is)
  tied_first Greater x y rest rest' is go = refl

  same_first : (x y : Value) (rest : Ordering) → x ≡ y → ordering_then (value_cmp x y) rest ≡ rest
  same_first x y rest same =
      ap (λ z. ordering_then (value_cmp z y) rest) same
      ∙ ap (λ o. ordering_then o rest) (tied_itself values_total y)

  by_number : (a : ℕ) (slots : List Slot) (b : ℕ) → AreNumbered a slots b → length others ≡ b → length values ≡ b
      → Agree a others values → compared slots ≡ rests a
  by_number a [] b numbered one other agree =
      let ends : length others ≤ a = omega arith in
      let ends_too : length values ≤ a = omega arith in
      sym ((λ i. slice_cmp value_cmp (drop_all a others ends i) (drop_all a values ends_too i)))
  by_number a (Fixed value ∷ slots) b numbered one other agree =
      same_first value value (compared slots) refl ∙ by_number a slots b numbered one other agree
  by_number a (Class n ∷ slots) b (inl old) one other agree =
      same_first (get_or others n no_value) (get_or values n no_value) (compared slots) (agree n old.0)
      ∙ by_number a slots b old.1 one other agree
  by_number a (Class n ∷ slots) b (inr new) one other agree =
      let grows = numbered_grows (suc a) slots b new.1 in
      let below : a < length others = omega arith in
      let below_too : a < length values = omega arith in
      let x = get_or others a no_value in
      let y = get_or values a no_value in
      let first : ordering_then (value_cmp x y) (compared slots) ≡ ordering_then (value_cmp x y) (rests (suc a)) =
      tied_first (value_cmp x y) x y (compared slots) (rests (suc a)) refl
      (λ same. by_number (suc a) slots b new.1 one other (agree_more a others values agree same)) in
      ap (λ i. ordering_then (value_cmp (get_or others i no_value) (get_or values i no_value)) (compared slots)) new.0
      ∙ (first ∙ sym (λ i. slice_cmp value_cmp (rest_is others a below i) (rest_is values a below_too i)))

pub kept_order : (plan : Plan) (others values : List Value) → IsPlan plan → length others ≡ length plan.kinds
    → length values ≡ length plan.kinds
    → choice_cmp (spread plan others) (spread plan values) ≡ slice_cmp value_cmp others values
kept_order plan others values is one other =
    flattened (slot_value others) (slot_value values) plan.slots
    ∙ by_number others values 0 (all_slots plan) (length plan.kinds) is.numbered one other
    (λ k below. absurd (omega arith))
