-- What stands for variables, by their bindings.
use Rattle.std.proofs.Common.{◌≡◌, ℕ, zero, suc, ◌+◌, ◌<◌, ◌⊎◌, inl, inr, cond, List, [], ◌∷◌, ◌++◌, map, take}
use Rattle.std.proofs.Common.{length, get_or, refl, sym, ◌∙◌, ap, subst, arith, All}
use Rattle.std.specs.Prelude.{IfSome}
use Rattle.std.specs.List.{flat_map}
use Rattle.std.proofs.lemmas.Bool.{cases_Bool}
use Rattle.std.proofs.lemmas.List.{flat_map_more, take_more, append_assoc}
use Rattle.ent_value.specs.declared.value.Kind.{Kind}
use Rattle.ent_value.specs.declared.value.Value.{Value}
use Rattle.ent_semantics.specs.Entangled.{Valuation}
use Rattle.ent_unify.specs.declared.unifier.ClassBinding.{ClassBinding}
use Rattle.ent_unify.specs.declared.variable.Representative.{Representative}
use Rattle.ent_unify.specs.declared.variable.Representative.TheVariants.{Constant, Variable}
use Rattle.ent_unify.specs.declared.variable.Variable.{Variable as Variables}
use Rattle.ent_unify.specs.Side.{Assignment, worth, Substitution, resolved, same_variable}
use Rattle.ent_unify.specs.Equation.{Sides, Holds, resolved_both}
use Rattle.ent_unify.specs.Unifier.{class_of, constant_in, binding_of, bindings_under, member_value, IsVariableOf}
use Rattle.ent_unify.specs.Unifier.{Agrees}
use Rattle.ent_unify.proofs.Places.{get_or-map}
use Rattle.ent_unify.proofs.Solving.{same_variable-self, same_variable-true}

class_first : (b : ClassBinding) (bs : List ClassBinding) (x : Variables) → b.variable ≡ x
    → class_of (b ∷ bs) x ≡ b.stands
class_first b bs x is =
    ap (λ t. cond t b.stands (class_of bs x)) (ap (λ y. same_variable y x) is ∙ same_variable-self x)

-- ---- the bindings of equations

-- one more equation
pub bindings_more : (stands : Substitution) (G S : List Sides) (i : ℕ) (g s : Sides) (bs mid new : List ClassBinding)
    → S ≡ map (resolved_both stands) G → i < length G → g ≡ get_or G i g → s ≡ get_or S i s
    → bs ≡ flat_map (bindings_under stands) (take i G)
    → mid ≡ bs ++ binding_of g.0 s.0 → new ≡ mid ++ binding_of g.1 s.1
    → new ≡ flat_map (bindings_under stands) (take (i + 1) G)
bindings_more stands G S i g s bs mid new put below is_g is_s so_far first second =
    let f = bindings_under stands in
    let of_g : s ≡ resolved_both stands g = is_s ∙ (ap (λ xs. get_or xs i s) put
    ∙ (get_or-map (resolved_both stands) G i g s below ∙ ap (resolved_both stands) (sym is_g))) in
    let both : new ≡ bs ++ f g = second ∙ (ap (λ xs. xs ++ binding_of g.1 s.1) first
    ∙ (append_assoc bs (binding_of g.0 s.0) (binding_of g.1 s.1)
    ∙ ap (λ (t : Sides). bs ++ (binding_of g.0 t.0 ++ binding_of g.1 t.1)) of_g)) in
    let more : take (i + 1) G ≡ take i G ++ g ∷ [] = take_more G i g below ∙ ap (λ x. take i G ++ x ∷ []) (sym is_g) in
    both ∙ (ap (λ xs. xs ++ f g) so_far ∙ (flat_map_more f [] (take i G) g ∙ ap (flat_map f) (sym more)))

-- each binding is of what stands for its variable
AreOf : Substitution → List ClassBinding → Type 0
AreOf stands [] = Unit {0}
AreOf stands (b ∷ bs) = (b.stands ≡ stands b.variable) × AreOf stands bs

OccursIn : Variables → List ClassBinding → Type 0
OccursIn x [] = ⊥
OccursIn x (b ∷ bs) = (b.variable ≡ x) ⊎ OccursIn x bs

are_of-append : (stands : Substitution) (bs cs : List ClassBinding) → AreOf stands bs → AreOf stands cs
    → AreOf stands (bs ++ cs)
unfolding AreOf
are_of-append stands [] cs left right = right
are_of-append stands (b ∷ bs) cs left right = (left.0, are_of-append stands bs cs left.1 right)

occurs-left : (x : Variables) (bs cs : List ClassBinding) → OccursIn x bs → OccursIn x (bs ++ cs)
unfolding OccursIn
occurs-left x [] cs here = absurd here
occurs-left x (b ∷ bs) cs (inl is) = inl is
occurs-left x (b ∷ bs) cs (inr later) = inr (occurs-left x bs cs later)

occurs-right : (x : Variables) (bs cs : List ClassBinding) → OccursIn x cs → OccursIn x (bs ++ cs)
unfolding OccursIn
occurs-right x [] cs here = here
occurs-right x (b ∷ bs) cs here = inr (occurs-right x bs cs here)

found : (stands : Substitution) (bs : List ClassBinding) (x : Variables) → AreOf stands bs → OccursIn x bs
    → class_of bs x ≡ stands x
unfolding AreOf OccursIn
found stands [] x are occurs = absurd occurs
found stands (b ∷ bs) x are (inl is) = class_first b bs x is ∙ (are.0 ∙ ap stands is)
found stands (b ∷ bs) x are (inr later) =
    elim (cases_Bool (same_variable b.variable x)) [
      | inl same ↦ class_first b bs x (same_variable-true b.variable x same)
          ∙ (are.0 ∙ ap stands (same_variable-true b.variable x same))
      | inr differs ↦ ap (λ t. cond t b.stands (class_of bs x)) differs ∙ found stands bs x are.1 later
    ]

class_worth : (values : Assignment) (stands : Substitution) (bs : List ClassBinding) (x : Variables) → AreOf stands bs
    → ((y : Variables) → worth values (stands y) ≡ values y) → worth values (class_of bs x) ≡ values x
unfolding AreOf
class_worth values stands [] x are kept = refl
class_worth values stands (b ∷ bs) x are kept =
    elim (cases_Bool (same_variable b.variable x)) [
      | inl same ↦
          let is = same_variable-true b.variable x same in
          ap (worth values) (class_first b bs x is ∙ (are.0 ∙ ap stands is)) ∙ kept x
      | inr differs ↦ ap (λ t. worth values (cond t b.stands (class_of bs x))) differs
          ∙ class_worth values stands bs x are.1 kept
    ]

are_of_binding : (stands : Substitution) (s : Representative) → AreOf stands (binding_of s (resolved stands s))
unfolding AreOf
are_of_binding stands (Constant value) = tt
are_of_binding stands (Variable x) = (refl, tt)

are_of_all : (stands : Substitution) (es : List Sides) → AreOf stands (flat_map (bindings_under stands) es)
unfolding AreOf
are_of_all stands [] = tt
are_of_all stands (e ∷ es) =
    are_of-append stands (bindings_under stands e) (flat_map (bindings_under stands) es)
    (are_of-append stands (binding_of e.0 (resolved stands e.0)) (binding_of e.1 (resolved stands e.1))
    (are_of_binding stands e.0) (are_of_binding stands e.1)) (are_of_all stands es)

occurs_binding : (stands : Substitution) (s : Representative) (x : Variables) → s ≡ Variable x
    → OccursIn x (binding_of s (resolved stands s))
unfolding OccursIn
occurs_binding stands (Constant value) x is = cc
occurs_binding stands (Variable y) x is = inl (let e : y ≡ x = cc in e)

module _ (stands : Substitution) (x : Variables) where
  occurs_left : (es : List Sides) (k : ℕ) (d : Sides) → k < length es → (get_or es k d).0 ≡ Variable x
      → OccursIn x (flat_map (bindings_under stands) es)
  occurs_left [] k d below is = absurd (omega arith)
  occurs_left (e ∷ es) zero d below is =
      occurs-left x (bindings_under stands e) (flat_map (bindings_under stands) es)
      (occurs-left x (binding_of e.0 (resolved stands e.0)) (binding_of e.1 (resolved stands e.1))
      (occurs_binding stands e.0 x is))
  occurs_left (e ∷ es) (suc k) d below is =
      occurs-right x (bindings_under stands e) (flat_map (bindings_under stands) es)
      (occurs_left es k d (omega arith) is)

  occurs_right : (es : List Sides) (k : ℕ) (d : Sides) → k < length es → (get_or es k d).1 ≡ Variable x
      → OccursIn x (flat_map (bindings_under stands) es)
  occurs_right [] k d below is = absurd (omega arith)
  occurs_right (e ∷ es) zero d below is =
      occurs-left x (bindings_under stands e) (flat_map (bindings_under stands) es)
      (occurs-right x (binding_of e.0 (resolved stands e.0)) (binding_of e.1 (resolved stands e.1))
      (occurs_binding stands e.1 x is))
  occurs_right (e ∷ es) (suc k) d below is =
      occurs-right x (bindings_under stands e) (flat_map (bindings_under stands) es)
      (occurs_right es k d (omega arith) is)

class_side : (stands : Substitution) (bs : List ClassBinding) (s : Representative)
    → ((x : Variables) → s ≡ Variable x → class_of bs x ≡ stands x) → resolved (class_of bs) s ≡ resolved stands s
class_side stands bs (Constant value) is = refl
class_side stands bs (Variable x) is = is x refl

constant_case : (s : Representative) (values : Assignment) (w : Value) → worth values s ≡ w
    → IfSome (constant_in s) (λ value. w ≡ value)
constant_case (Constant value) values w is = sym is
constant_case (Variable x) values w is = tt

pub agrees_from_kept : (K : List (List Kind)) (stands : Substitution) (es : List Sides) (bs : List ClassBinding)
    (V : List Valuation) → bs ≡ flat_map (bindings_under stands) es
    → ((x : Variables) → worth (member_value V) (stands x) ≡ member_value V x) → Agrees K bs V
agrees_from_kept K stands es bs V is kept =
    let are : AreOf stands bs = subst (AreOf stands) (sym is) (are_of_all stands es) in
    let by = λ (x : Variables). class_worth (member_value V) stands bs x are kept in
    record {
      classes = λ x y of_x of_y same. sym (by x) ∙ (ap (worth (member_value V)) same ∙ by y);
      constants = λ x of_x. constant_case (class_of bs x) (member_value V) (member_value V x) (by x);
    }

constant_is : (o : Representative) (value w : Value) → o ≡ Constant value → IfSome (constant_in o) (λ v. w ≡ v)
    → w ≡ value
constant_is o value w is h = subst (λ s. IfSome (constant_in s) (λ v. w ≡ v)) is h

-- a value, or a variable of a member
abbrev pub IsSideOf : List (List Kind) → Representative → Type 0
IsSideOf K (Constant value) = Unit {0}
IsSideOf K (Variable x) = IsVariableOf K x

abbrev pub AreSidesOf : List (List Kind) → Sides → Type 0
AreSidesOf K equation = IsSideOf K equation.0 × IsSideOf K equation.1

agree_sides : (K : List (List Kind)) (bs : List ClassBinding) (V : List Valuation) (l r : Representative)
    → IsSideOf K l → IsSideOf K r → resolved (class_of bs) l ≡ resolved (class_of bs) r → Agrees K bs V
    → worth (member_value V) l ≡ worth (member_value V) r
agree_sides K bs V (Constant c) (Constant d) left right same agrees = cc
agree_sides K bs V (Constant c) (Variable y) left right same agrees =
    sym (constant_is (class_of bs y) c (member_value V y) (sym same) (agrees.constants y right))
agree_sides K bs V (Variable x) (Constant d) left right same agrees =
    constant_is (class_of bs x) d (member_value V x) same (agrees.constants x left)
agree_sides K bs V (Variable x) (Variable y) left right same agrees = agrees.classes x y left right same

pub holds_from_agrees : (K : List (List Kind)) (stands : Substitution) (es : List Sides) (bs : List ClassBinding)
    (V : List Valuation) → bs ≡ flat_map (bindings_under stands) es
    → ((k : ℕ) (d : Sides) → k < length es → resolved stands (get_or es k d).0 ≡ resolved stands (get_or es k d).1)
    → All (AreSidesOf K) es → Agrees K bs V → All (Holds (member_value V)) es
holds_from_agrees K stands es bs V is equal sides agrees k d below =
    let are : AreOf stands bs = subst (AreOf stands) (sym is) (are_of_all stands es) in
    let e = get_or es k d in
    let left : resolved (class_of bs) e.0 ≡ resolved stands e.0 =
    class_side stands bs e.0
    (λ x at. found stands bs x are (subst (OccursIn x) (sym is) (occurs_left stands x es k d below at))) in
    let right : resolved (class_of bs) e.1 ≡ resolved stands e.1 =
    class_side stands bs e.1
    (λ x at. found stands bs x are (subst (OccursIn x) (sym is) (occurs_right stands x es k d below at))) in
    let of_members = sides k d below in
    agree_sides K bs V e.0 e.1 of_members.0 of_members.1 (left ∙ (equal k d below ∙ sym right)) agrees
