-- The slots of variables are a plan.
use Rattle.std.proofs.Common.{◌≡◌, inl, inr, ℕ, zero, suc, ◌<◌, List, [], ◌∷◌, map, length, get_or, refl, sym}
use Rattle.std.proofs.Common.{◌∙◌, ap, subst, arith, Some}
use Rattle.std.specs.Prelude.{IfSome, slice_get}
use Rattle.std.proofs.lemmas.Bool.{cases_lt}
use Rattle.std.proofs.lemmas.List.{length-map, get_or-map, same_lists, get_or_default}
use Rattle.ent_value.specs.Value.{kind_of, kinds_of}
use Rattle.ent_value.specs.declared.value.Kind.{Kind}
use Rattle.ent_value.specs.declared.value.Kind.TheVariants as kinds
use Rattle.ent_value.specs.declared.value.Value.{Value}
use Rattle.ent_semantics.specs.Entangled.{Valuation}
use Rattle.ent_semantics.specs.Term.{no_value}
use Rattle.ent_semantics.specs.Pool.{Posted}
use Rattle.ent_unify.specs.Unifier.{class_of, constant_in, constant_of, member_value, IsVariableOf, Agrees}
use Rattle.ent_unify.specs.declared.unifier.ClassBinding.{ClassBinding}
use Rattle.ent_unify.specs.declared.variable.Representative.TheVariants.{Constant, Variable}
use Rattle.ent_unify.specs.declared.variable.Variable.{Variable as Variables}
use Rattle.ent_unify.proofs.Pairs.{kinds_at}
use Rattle.ent_plan.specs.Agreement.{variables_of, IsUnifierOf}
use Rattle.ent_plan.specs.Classes.{variable_at, Stands, AreSlotRows}
use Rattle.ent_plan.specs.Plan.{IsPlan, AreNumbered, all_slots, slot_kind, slot_value}
use Rattle.ent_plan.specs.declared.class.Class.{Class as Classes}
use Rattle.ent_plan.specs.declared.slot.Slot.{Slot}
use Rattle.ent_plan.specs.declared.slot.Slot.TheVariants.{Fixed, Class}
use Rattle.ent_plan.proofs.Rows.{variable_is_of}

-- ---- lists of lists

-- lists of lists are the same where they are place by place
same_rows : {X : Type 0} (rows others : List (List X)) → length rows ≡ length others
    → ((m : ℕ) → m < length rows → length (get_or rows m []) ≡ length (get_or others m []))
    → ((m k : ℕ) (d : X) → m < length rows → k < length (get_or rows m [])
    → get_or (get_or rows m []) k d ≡ get_or (get_or others m []) k d)
    → rows ≡ others
same_rows rows others count widths same =
    same_lists rows others count (λ m d below.
    let here = same_lists (get_or rows m []) (get_or others m []) (widths m below) (λ k e. same m k e below) in
    get_or_default rows m d [] below
    ∙ (here ∙ get_or_default others m [] d (let c = count in omega arith)))

row_of_map : {X Y : Type 0} (f : X → Y) (rows : List (List X)) (m : ℕ)
    → get_or (map (map f) rows) m [] ≡ map f (get_or rows m [])
row_of_map f [] m = refl
row_of_map f (row ∷ rows) zero = refl
row_of_map f (row ∷ rows) (suc m) = row_of_map f rows m

-- ---- variables of the members

-- what is known of a variable's place
record IsPlacedAt (K : List (List Kind)) (x : Variables) : Type 0 where
  pub member : x.member < length K
  index : x.index < length (get_or K x.member [])
  is : variable_at K x.member x.index ≡ x

option_kind : (ks : List Kind) (n : ℕ) (k : Kind) → slice_get ks n ≡ Some k
    → (n < length ks) × (get_or ks n kinds.Int ≡ k)
option_kind [] n k is = cc
option_kind (j ∷ ks) zero k is = (omega arith, cc)
option_kind (j ∷ ks) (suc n) k is = (let r = option_kind ks n k is in ((let l = r.0 in omega arith), r.1))

member_below : (K : List (List Kind)) (m n : ℕ) → n < length (get_or K m []) → m < length K
member_below [] m n below = absurd (omega arith)
member_below (ks ∷ K) zero n below = omega arith
member_below (ks ∷ K) (suc m) n below = (let l = member_below K m n below in omega arith)

placed_at : (K : List (List Kind)) (x : Variables) → IsVariableOf K x → IsPlacedAt K x
placed_at K x of_members =
    let found = option_kind (get_or K x.member []) x.index x.kind of_members in
    record {
      member = member_below K x.member x.index found.0;
      index = found.0;
      is = λ i. record { member = x.member; index = x.index; kind = found.1 i };
    }

kind_at : (values : Valuation) (n : ℕ) (k : Kind) → slice_get (kinds_of values) n ≡ Some k
    → kind_of (get_or values n no_value) ≡ k
kind_at [] n k is = cc
kind_at (v ∷ values) zero k is = cc
kind_at (v ∷ values) (suc n) k is = kind_at values n k is

-- a variable's value is of its kind
kind_in : (K : List (List Kind)) (V : List Valuation) → map kinds_of V ≡ K → (x : Variables) → IsVariableOf K x
    → kind_of (member_value V x) ≡ x.kind
kind_in K V kinded x of_members =
    let row : kinds_of (get_or V x.member []) ≡ get_or K x.member [] =
    sym (kinds_at V x.member) ∙ ap (λ ks. get_or ks x.member []) kinded in
    kind_at (get_or V x.member []) x.index x.kind (ap (λ ks. slice_get ks x.index) row ∙ of_members)

-- ---- the values of classes

-- the value of each class is that of its first variable
abbrev first_values : List Valuation → List Classes → List Value
first_values V classes = map (λ (c : Classes). member_value V c.first) classes

abbrev first_kinds : List Classes → List Kind
first_kinds classes = map (λ (c : Classes). c.first.kind) classes

no_class : Classes
no_class =
    let x : Variables = record { member = 0; index = 0; kind = kinds.Int } in
    record { representative = x; first = x }

module _ (bs : List ClassBinding) (K : List (List Kind)) (classes : List Classes) (rows : List (List Slot))
    (are : AreSlotRows bs K classes rows) where
  first_of : (n : ℕ) → n < length classes → IsVariableOf K (get_or classes n no_class).first
      × (class_of bs (get_or classes n no_class).first ≡ Variable (get_or classes n no_class).representative)
  first_of n below = are.classes_are.firsts n no_class below

  -- a variable's value is what its slot is worth
  worth_is : (V : List Valuation) → Agrees K bs V → (x : Variables) → IsVariableOf K x → (s : Slot)
      → Stands bs classes x s → member_value V x ≡ slot_value (first_values V classes) s
  worth_is V agrees x of_members (Fixed value) stands =
      subst (λ r. IfSome (constant_in r) (λ v. member_value V x ≡ v)) stands (agrees.constants x of_members)
  worth_is V agrees x of_members (Class n) (below, stands) =
      let first = first_of n below in
      agrees.classes x (get_or classes n no_class).first of_members first.0 (stands no_class ∙ sym first.1)
      ∙ sym (get_or-map (λ (c : Classes). member_value V c.first) classes n no_class no_value below)

  -- the slot of a variable
  slot_at : ℕ → ℕ → Slot
  slot_at m k = get_or (get_or rows m []) k (Class 0)

  slot_stands : (m k : ℕ) → m < length K → k < length (get_or K m [])
      → Stands bs classes (variable_at K m k) (slot_at m k)
  unfolding slot_at
  slot_stands m k below_m below_k = are.stands m k (Class 0) below_m below_k

  -- ---- groundings that agree are those of the plan

  kinds_of_firsts : (V : List Valuation) → map kinds_of V ≡ K → kinds_of (first_values V classes) ≡ first_kinds classes
  kinds_of_firsts V kinded =
      same_lists (kinds_of (first_values V classes)) (first_kinds classes)
      (length-map (first_values V classes) kind_of
      ∙ (length-map classes (λ (c : Classes). member_value V c.first)
      ∙ sym (length-map classes (λ (c : Classes). c.first.kind))))
      (λ n d less.
      let below : n < length classes =
      (let l = less in omega (
        arith,
        length-map (first_values V classes) kind_of,
        length-map classes (λ (c : Classes). member_value V c.first),
      )) in
      let below_values : n < length (first_values V classes) =
      omega (arith, length-map classes (λ (c : Classes). member_value V c.first)) in
      get_or-map kind_of (first_values V classes) n no_value d below_values
      ∙ (ap kind_of (get_or-map (λ (c : Classes). member_value V c.first) classes n no_class no_value below)
      ∙ (kind_in K V kinded (get_or classes n no_class).first (first_of n below).0
      ∙ sym (get_or-map (λ (c : Classes). c.first.kind) classes n no_class d below))))

  widths_of : (V : List Valuation) → map kinds_of V ≡ K → (m : ℕ)
      → length (get_or V m []) ≡ length (get_or K m [])
  widths_of V kinded m =
      sym (length-map (get_or V m []) kind_of)
      ∙ (ap length (sym (kinds_at V m)) ∙ ap (λ ks. length (get_or ks m [])) kinded)

  count_of : (V : List Valuation) → map kinds_of V ≡ K → length V ≡ length K
  count_of V kinded = sym (length-map V kinds_of) ∙ ap length kinded

  to_spread : (V : List Valuation) → map kinds_of V ≡ K → Agrees K bs V
      → V ≡ map (map (slot_value (first_values V classes))) rows
  unfolding slot_at
  to_spread V kinded agrees =
      let worth = slot_value (first_values V classes) in
      let count : length V ≡ length (map (map worth) rows) =
      count_of V kinded ∙ (sym are.count_is ∙ sym (length-map rows (map worth))) in
      same_rows V (map (map worth) rows) count
      (λ m below.
      let below_K : m < length K = (let c = count_of V kinded in omega arith) in
      widths_of V kinded m ∙ (sym (are.widths m below_K)
      ∙ (sym (length-map (get_or rows m []) worth) ∙ ap length (sym (row_of_map worth rows m)))))
      (λ m k d below less.
      let below_K : m < length K = (let c = count_of V kinded in omega arith) in
      let below_k : k < length (get_or K m []) = (let w = widths_of V kinded m in omega arith) in
      let below_row : k < length (get_or rows m []) = (let w = are.widths m below_K in omega arith) in
      get_or_default (get_or V m []) k d no_value less
      ∙ (worth_is V agrees (variable_at K m k) (variable_is_of K m k below_k) (slot_at m k)
      (slot_stands m k below_K below_k)
      ∙ (sym (get_or-map worth (get_or rows m []) k (Class 0) d below_row)
      ∙ ap (λ r. get_or r k d) (sym (row_of_map worth rows m)))))

  -- ---- groundings of the plan agree

  value_is : (V : List Valuation) (values : List Value) → V ≡ map (map (slot_value values)) rows → (m k : ℕ)
      → m < length K → k < length (get_or K m []) → get_or (get_or V m []) k no_value ≡ slot_value values (slot_at m k)
  unfolding slot_at
  value_is V values is m k below_m below_k =
      let below_row : k < length (get_or rows m []) = (let w = are.widths m below_m in omega arith) in
      ap (λ v. get_or (get_or v m []) k no_value) is
      ∙ (ap (λ r. get_or r k no_value) (row_of_map (slot_value values) rows m)
      ∙ get_or-map (slot_value values) (get_or rows m []) k (Class 0) no_value below_row)

  one_number : (n k : ℕ) → n < length classes → k < length classes
      → (get_or classes n no_class).representative ≡ (get_or classes k no_class).representative → n ≡ k
  one_number n k below_n below_k same =
      elim (cases_lt n k) [
        | inl less ↦ absurd (are.classes_are.apart n k no_class less below_k same)
        | inr not_less ↦ elim (cases_lt k n) [
          | inl more ↦ absurd (are.classes_are.apart k n no_class more below_n (sym same))
          | inr not_more ↦ omega arith
        ]
      ]

  -- slots of one class are worth the same
  worth_same : (values : List Value) (x y : Variables) (s t : Slot) → Stands bs classes x s → Stands bs classes y t
      → class_of bs x ≡ class_of bs y → slot_value values s ≡ slot_value values t
  worth_same values x y (Fixed v) (Fixed w) left right same =
      (let e : Constant v ≡ Constant w = sym left ∙ (same ∙ right) in cc)
  worth_same values x y (Fixed v) (Class k) left right same =
      (let e : Constant v ≡ Variable (get_or classes k no_class).representative =
      sym left ∙ (same ∙ right.1 no_class) in cc)
  worth_same values x y (Class n) (Fixed w) left right same =
      (let e : Variable (get_or classes n no_class).representative ≡ Constant w =
      sym (left.1 no_class) ∙ (same ∙ right) in cc)
  worth_same values x y (Class n) (Class k) left right same =
      let e : Variable (get_or classes n no_class).representative
      ≡ Variable (get_or classes k no_class).representative =
      sym (left.1 no_class) ∙ (same ∙ right.1 no_class) in
      let r : (get_or classes n no_class).representative ≡ (get_or classes k no_class).representative = cc in
      ap (λ i. get_or values i no_value) (one_number n k left.0 right.0 r)

  constant_is : (values : List Value) (x : Variables) (w : Value) (s : Slot) → Stands bs classes x s
      → w ≡ slot_value values s → IfSome (constant_of bs x) (λ value. w ≡ value)
  constant_is values x w (Fixed v) stands is =
      subst (λ r. IfSome (constant_in r) (λ value. w ≡ value)) (sym stands) is
  constant_is values x w (Class n) stands is =
      subst (λ r. IfSome (constant_in r) (λ value. w ≡ value)) (sym (stands.1 no_class)) tt

  from_spread : (V : List Valuation) (values : List Value) → V ≡ map (map (slot_value values)) rows → Agrees K bs V
  from_spread V values is =
      let slot = λ (x : Variables). slot_at x.member x.index in
      let value = λ (x : Variables) (h : IsPlacedAt K x). value_is V values is x.member x.index h.member h.index in
      let stands = λ (x : Variables) (h : IsPlacedAt K x).
      subst (λ y. Stands bs classes y (slot_at x.member x.index)) h.is
      (slot_stands x.member x.index h.member h.index) in
      record {
        classes = λ x y of_x of_y same.
            let at_x = placed_at K x of_x in
            let at_y = placed_at K y of_y in
            value x at_x ∙ (worth_same values x y (slot x) (slot y) (stands x at_x) (stands y at_y) same
            ∙ sym (value y at_y));
        constants = λ x of_x.
            let at_x = placed_at K x of_x in
            constant_is values x (member_value V x) (slot x) (stands x at_x) (value x at_x);
      }

  -- ---- the kinds of slots

  kind_is : (V : List Valuation) → map kinds_of V ≡ K → Agrees K bs V → (x : Variables) → IsVariableOf K x → (s : Slot)
      → Stands bs classes x s → slot_kind (first_kinds classes) s ≡ x.kind
  kind_is V kinded agrees x of_members (Fixed value) stands =
      sym (ap kind_of (worth_is V agrees x of_members (Fixed value) stands)) ∙ kind_in K V kinded x of_members
  kind_is V kinded agrees x of_members (Class n) (below, stands) =
      let first = first_of n below in
      get_or-map (λ (c : Classes). c.first.kind) classes n no_class kinds.Int below
      ∙ (sym (kind_in K V kinded (get_or classes n no_class).first first.0)
      ∙ (ap kind_of (sym (agrees.classes x (get_or classes n no_class).first of_members first.0
      (stands no_class ∙ sym first.1)))
      ∙ kind_in K V kinded x of_members))

  kinds_are : (V : List Valuation) → map kinds_of V ≡ K → Agrees K bs V
      → map (map (slot_kind (first_kinds classes))) rows ≡ K
  unfolding slot_at
  kinds_are V kinded agrees =
      let kind = slot_kind (first_kinds classes) in
      same_rows (map (map kind) rows) K (length-map rows (map kind) ∙ are.count_is)
      (λ m below.
      let below_K : m < length K = (let c = are.count_is in omega (arith, length-map rows (map kind))) in
      ap length (row_of_map kind rows m) ∙ (length-map (get_or rows m []) kind ∙ are.widths m below_K))
      (λ m k d below less.
      let below_K : m < length K = (let c = are.count_is in omega (arith, length-map rows (map kind))) in
      let width : length (get_or (map (map kind) rows) m []) ≡ length (get_or rows m []) =
      ap length (row_of_map kind rows m) ∙ length-map (get_or rows m []) kind in
      let below_row : k < length (get_or rows m []) = omega arith in
      let below_k : k < length (get_or K m []) = (let w = are.widths m below_K in omega arith) in
      ap (λ r. get_or r k d) (row_of_map kind rows m)
      ∙ (get_or-map kind (get_or rows m []) k (Class 0) d below_row
      ∙ (kind_is V kinded agrees (variable_at K m k) (variable_is_of K m k below_k) (slot_at m k)
      (slot_stands m k below_K below_k)
      ∙ get_or_default (get_or K m []) k kinds.Int d below_k)))

pub planned : (members : List Posted) (K : List (List Kind)) → K ≡ variables_of members → (bs : List ClassBinding)
    (classes : List Classes) (rows : List (List Slot)) (class_kinds : List Kind) → IsUnifierOf members bs
    → AreSlotRows bs K classes rows → class_kinds ≡ first_kinds classes
    → IsPlan (record { members = members; slots = rows; kinds = class_kinds })
planned members K same bs classes rows class_kinds unifier given kinds_given =
    let K' = variables_of members in
    let are : AreSlotRows bs K' classes rows = subst (λ k. AreSlotRows bs k classes rows) same given in
    subst (λ ks. IsPlan (record { members = members; slots = rows; kinds = ks })) (sym kinds_given)
    (record {
      kinded = kinds_are bs K' classes rows are unifier.some unifier.of_kinds unifier.agrees;
      numbered = subst (AreNumbered 0 (all_slots (record { members = members; slots = rows; kinds = [] })))
          (sym (length-map classes (λ (c : Classes). c.first.kind))) are.numbered;
      exact = λ groundings kinded. (
        (λ met.
            let agrees = (unifier.exact groundings kinded).0 met in (
              first_values groundings classes,
              kinds_of_firsts bs K' classes rows are groundings kinded,
              to_spread bs K' classes rows are groundings kinded agrees,
            )),
        (λ spread.
            (unifier.exact groundings kinded).1 (from_spread bs K' classes rows are groundings spread.0 spread.2)),
      );
    })
