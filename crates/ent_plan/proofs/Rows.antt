-- The slots of variables, one after the other.
use Rattle.std.proofs.Common.{◌≡◌, ◌≢◌, inl, inr, ℕ, zero, suc, ◌+◌, ◌<◌, ◌≤◌, List, [], ◌∷◌, ◌++◌}
use Rattle.std.proofs.Common.{length, get_or, refl, sym, ◌∙◌, ap, subst, arith, Some}
use Rattle.std.specs.Prelude.{slice_get}
use Rattle.std.specs.Borrow.{Bor}
use Rattle.std.specs.List.{flat_map}
use Rattle.std.proofs.lemmas.Bool.{cases_lt}
use Rattle.std.proofs.lemmas.List.{get_or_append_left, get_or_push, length_push, flat_map_more}
use Rattle.std.proofs.lemmas.List.Quantifiers.{all_pairs_push}
use Rattle.ent_value.specs.declared.value.Kind.{Kind}
use Rattle.ent_value.specs.declared.value.Kind.TheVariants as kinds
use Rattle.ent_unify.specs.Unifier.{class_of, IsVariableOf, kinds_seen}
use Rattle.ent_unify.specs.declared.unifier.ClassBinding.{ClassBinding}
use Rattle.ent_unify.specs.declared.variable.Representative.TheVariants.{Variable}
use Rattle.ent_unify.specs.declared.variable.Variable.{Variable as Variables}
use Rattle.ent_plan.specs.Plan.{AreNumbered}
use Rattle.ent_plan.specs.declared.class.Class.{Class as Classes}
use Rattle.ent_plan.specs.declared.slot.Slot.{Slot}
use Rattle.ent_plan.specs.declared.slot.Slot.TheVariants.{Fixed, Class}
use Rattle.ent_plan.specs.Classes.{IsNewTo, IsSlot, variable_at, Stands, AreClasses, IsSlotRowTo}
use Rattle.ent_plan.specs.Classes.{IsSlotRow, AreSlotRowsTo}
use Rattle.ent_plan.proofs.Order.{numbered_grows}

-- ---- numbers end to end

pub numbered_append : (a : ℕ) (slots : List Slot) (b : ℕ) (others : List Slot) (c : ℕ) → AreNumbered a slots b
    → AreNumbered b others c → AreNumbered a (slots ++ others) c
numbered_append a [] b others c left right = subst (λ n. AreNumbered n others c) (sym left) right
numbered_append a (Fixed value ∷ slots) b others c left right = numbered_append a slots b others c left right
numbered_append a (Class n ∷ slots) b others c (inl old) right =
    inl (old.0, numbered_append a slots b others c old.1 right)
numbered_append a (Class n ∷ slots) b others c (inr new) right =
    inr (new.0, numbered_append (suc a) slots b others c new.1 right)

-- ---- one slot

-- the classes with what one more slot has put down
pub record IsStep (bs : List ClassBinding) (K : List (List Kind)) (old new : List Classes) (x : Variables) (s : Slot) :
    Type 0 where
  pub stands : Stands bs new x s
  pub numbered : AreNumbered (length old) (s ∷ []) (length new)
  pub kept : (n : ℕ) (d : Classes) → n < length old → get_or new n d ≡ get_or old n d
  pub classes : AreClasses bs K new

module _ (bs : List ClassBinding) (K : List (List Kind)) (x : Variables) (of_members : IsVariableOf K x) where
  with_class : (old : List Classes) (r : Variables) → AreClasses bs K old → class_of bs x ≡ Variable r → IsNewTo old r
      → AreClasses bs K (old ++ record { representative = r; first = x } ∷ [])
  with_class old r are is is_new =
      let class : Classes = record { representative = r; first = x } in
      record {
        firsts = λ n d below. elim (cases_lt n (length old)) [
          | inl before ↦
              subst (λ (c : Classes). IsVariableOf K c.first × (class_of bs c.first ≡ Variable c.representative))
              (sym (get_or_append_left old (class ∷ []) d n before)) (are.firsts n d before)
          | inr not_before ↦
              let last : length old ≡ n = omega (arith, length_push old class) in
              subst (λ (c : Classes). IsVariableOf K c.first × (class_of bs c.first ≡ Variable c.representative))
              (sym (get_or_push old class d n last)) (of_members, is)
        ];
        apart = all_pairs_push (λ (one other : Classes). one.representative ≢ other.representative) old class are.apart
            is_new;
      }

  -- what holds where no class is put down
  same_step : (old new : List Classes) (s : Slot) → AreClasses bs K old → new ≡ old → Stands bs old x s
      → AreNumbered (length old) (s ∷ []) (length old) → IsStep bs K old new x s
  same_step old new s are same stands numbered =
      subst (λ classes. IsStep bs K old classes x s) (sym same)
      (record { stands = stands; numbered = numbered; kept = λ n d below. refl; classes = are })

  pub step : (old new : List Classes) (s : Slot) → AreClasses bs K old → IsSlot bs x old new s
      → IsStep bs K old new x s
  step old new (Fixed value) are (is, same) = same_step old new (Fixed value) are same is refl
  step old new (Class n) are (r, is, inl (number, same)) =
      same_step old new (Class n) are same
      (number.0, λ d. is ∙ ap (λ y. Variable y) (sym (number.1 d))) (inl (number.0, refl))
  step old new (Class n) are (r, is, inr (next, is_new, pushed)) =
      let class : Classes = record { representative = r; first = x } in
      let longer : length (old ++ class ∷ []) ≡ length old + 1 = length_push old class in
      subst (λ classes. IsStep bs K old classes x (Class n)) (sym pushed)
      (record {
        stands = (
          omega arith,
          λ d. is ∙ ap (λ (c : Classes). Variable c.representative) (sym (get_or_push old class d n (sym next))),
        );
        numbered = inr (next, omega arith);
        kept = λ k d below. get_or_append_left old (class ∷ []) d k below;
        classes = with_class old r are is is_new;
      })

-- ---- one more variable of a member

-- a slot stands as long as the classes are kept
stands_on : (bs : List ClassBinding) (old new : List Classes) (x : Variables) (s : Slot) → length old ≤ length new
    → ((n : ℕ) (d : Classes) → n < length old → get_or new n d ≡ get_or old n d) → Stands bs old x s → Stands bs new x s
stands_on bs old new x (Fixed value) longer kept stands = stands
stands_on bs old new x (Class n) longer kept (below, is) = (
  omega arith,
  λ d. is d ∙ ap (λ (c : Classes). Variable c.representative) (sym (kept n d below)),
)

pub slice_get_at : {X : Type 0} (xs : List X) (n : ℕ) (d : X) → n < length xs → slice_get xs n ≡ Some (get_or xs n d)
slice_get_at [] n d below = absurd (omega arith)
slice_get_at (x ∷ xs) zero d below = refl
slice_get_at (x ∷ xs) (suc n) d below = slice_get_at xs n d (omega arith)

pub variable_is_of : (K : List (List Kind)) (m n : ℕ) → n < length (get_or K m []) → IsVariableOf K (variable_at K m n)
variable_is_of K m n below = slice_get_at (get_or K m []) n kinds.Int below

pub row_more : (bs : List ClassBinding) (K : List (List Kind)) (m n : ℕ) (old mid new : List Classes)
    (slots fresh : List Slot) (x : Variables) (s : Slot) → n < length (get_or K m []) → x ≡ variable_at K m n
    → IsSlotRowTo bs K m n old mid slots → IsSlot bs x mid new s → fresh ≡ slots ++ s ∷ []
    → IsSlotRowTo bs K m (n + 1) old new fresh
row_more bs K m n old mid new slots fresh x s below is row slot pushed =
    let of_members : IsVariableOf K x = subst (IsVariableOf K) (sym is) (variable_is_of K m n below) in
    let one = step bs K x of_members mid new s row.classes slot in
    let longer = numbered_grows (length old) slots (length mid) row.numbered in
    let longer_too = numbered_grows (length mid) (s ∷ []) (length new) one.numbered in
    let width : length slots ≡ n = row.width_is in
    subst (IsSlotRowTo bs K m (n + 1) old new) (sym pushed)
    (record {
      width_is = omega (arith, length_push slots s);
      stands = λ k d less. elim (cases_lt k n) [
        | inl before ↦
            let within : k < length slots = omega arith in
            subst (Stands bs new (variable_at K m k)) (sym (get_or_append_left slots (s ∷ []) d k within))
            (stands_on bs mid new (variable_at K m k) (get_or slots k d) longer_too one.kept (row.stands k d before))
        | inr not_before ↦
            let same : n ≡ k = omega arith in
            subst (Stands bs new (variable_at K m k)) (sym (get_or_push slots s d k (width ∙ same)))
            (subst (λ y. Stands bs new y s) (is ∙ ap (variable_at K m) same) one.stands)
      ];
      numbered = numbered_append (length old) slots (length mid) (s ∷ []) (length new) row.numbered one.numbered;
      kept = λ k d less. one.kept k d (omega arith) ∙ row.kept k d less;
      classes = one.classes;
    })

pub kinds_at : (given : List (Bor (List Kind))) (m : ℕ) (d : Bor (List Kind)) → d.now ≡ []
    → get_or (kinds_seen given) m [] ≡ (get_or given m d).now
kinds_at [] m d none = sym none
kinds_at (ks ∷ given) zero d none = refl
kinds_at (ks ∷ given) (suc m) d none = kinds_at given m d none

-- ---- one more member

pub rows_more : (bs : List ClassBinding) (K : List (List Kind)) (m : ℕ) (old new : List Classes)
    (rows fresh : List (List Slot)) (row : List Slot) → AreSlotRowsTo bs K m old rows → IsSlotRow bs K m old new row
    → fresh ≡ rows ++ row ∷ [] → AreSlotRowsTo bs K (m + 1) new fresh
rows_more bs K m old new rows fresh row are one pushed =
    let count : length rows ≡ m = are.count_is in
    let longer = numbered_grows (length old) row (length new) one.numbered in
    let same_front : (k : ℕ) → k < m → get_or (rows ++ row ∷ []) k [] ≡ get_or rows k [] =
    λ k before. get_or_append_left rows (row ∷ []) [] k (omega arith) in
    let last_is : (k : ℕ) → m ≡ k → get_or (rows ++ row ∷ []) k [] ≡ row =
    λ k same. get_or_push rows row [] k (count ∙ same) in
    subst (AreSlotRowsTo bs K (m + 1) new) (sym pushed)
    (record {
      count_is = omega (arith, length_push rows row);
      widths = λ k less. elim (cases_lt k m) [
        | inl before ↦ ap length (same_front k before) ∙ are.widths k before
        | inr not_before ↦
            let same : m ≡ k = omega arith in
            ap length (last_is k same) ∙ (one.width_is ∙ ap (λ n. length (get_or K n [])) same)
      ];
      stands = λ k n d less below. elim (cases_lt k m) [
        | inl before ↦
            subst (λ r. Stands bs new (variable_at K k n) (get_or r n d)) (sym (same_front k before))
            (stands_on bs old new (variable_at K k n) (get_or (get_or rows k []) n d) longer one.kept
            (are.stands k n d before below))
        | inr not_before ↦
            let same : m ≡ k = omega arith in
            let below_here : n < length (get_or K m []) = subst (λ j. n < length (get_or K j [])) (sym same) below in
            subst (λ r. Stands bs new (variable_at K k n) (get_or r n d)) (sym (last_is k same))
            (subst (λ j. Stands bs new (variable_at K j n) (get_or row n d)) same (one.stands n d below_here))
      ];
      numbered = subst (λ slots. AreNumbered 0 slots (length new)) (flat_map_more (λ slots. slots) [] rows row)
          (numbered_append 0 (flat_map (λ slots. slots) rows) (length old) row (length new) are.numbered one.numbered);
      classes_are = one.classes;
    })
