-- Pairs of atoms and their equations.
use Rattle.std.proofs.Common.{◌≡◌, ℕ, zero, suc, ◌+◌, ◌<◌, List, [], ◌∷◌, ◌++◌, map, take, length, get_or, refl, sym}
use Rattle.std.proofs.Common.{◌∙◌, ap, subst, All, Option, Some, None}
use Rattle.std.specs.Prelude.{MatchOption, slice_get}
use Rattle.std.specs.List.{flat_map}
use Rattle.std.proofs.lemmas.List.{take_more, flat_map_more}
use Rattle.std.proofs.lemmas.List.Elements.{All-push, All-nil, All-cons, All-head, All-tail, All-append}
use Rattle.ent_value.specs.Value.{kinds_of}
use Rattle.ent_value.specs.declared.value.Kind.{Kind}
use Rattle.ent_value.specs.declared.value.Value.{Value}
use Rattle.ent_semantics.specs.Entangled.{Valuation}
use Rattle.ent_semantics.specs.declared.entangled.Term.{Term}
use Rattle.ent_semantics.specs.declared.entangled.Term.TheVariants as terms
use Rattle.ent_semantics.specs.Pool.{AreOfKinds}
use Rattle.ent_unify.specs.declared.tuple.Tuple.{Tuple}
use Rattle.ent_unify.specs.declared.unifier.ClassBinding.{ClassBinding}
use Rattle.ent_unify.specs.declared.unifier.MemberAtom.{MemberAtom}
use Rattle.ent_unify.specs.Side.{Assignment}
use Rattle.ent_unify.specs.Equation.{Sides, Holds, HasKinds, AreWithinBounds, AreRefuted}
use Rattle.ent_unify.specs.Tuple.{variable_side, term_side, column_sides, tuple_equations}
use Rattle.ent_unify.specs.Unifier.{AreKinded, AreAllOfKinds, AreEqual, NoneEquals, member_value, IsMostGeneral}
use Rattle.ent_unify.specs.Unifier.{pair_equations, IsPlain, AreEquationsOf, AreBindingsOf}
use Rattle.ent_unify.proofs.Atoms.{values_under, values_by_kinds, reads_under, reads_of, kinded_of}
use Rattle.ent_unify.proofs.Classes.{agrees_from_kept, holds_from_agrees, IsSideOf, AreSidesOf}
use Rattle.ent_unify.proofs.Solutions.{has_solution}
use Rattle.ent_unify.proofs.Tuples.{Reads, IsKinded, columns_kinded, values_from_columns, columns_from_values}

-- ---- lists end to end

All-left : {X : Type 0} (P : X → Type 0) (xs ys : List X) → All P (xs ++ ys) → All P xs
All-left P [] ys all = All-nil P
All-left P (x ∷ xs) ys all =
    All-cons P x xs (All-head P x (xs ++ ys) all) (All-left P xs ys (All-tail P x (xs ++ ys) all))

All-right : {X : Type 0} (P : X → Type 0) (xs ys : List X) → All P (xs ++ ys) → All P ys
All-right P [] ys all = all
All-right P (x ∷ xs) ys all = All-right P xs ys (All-tail P x (xs ++ ys) all)

all_parts : {X Y : Type 0} (P : Y → Type 0) (f : X → List Y) (xs : List X) → All P (flat_map f xs)
    → All (λ x. All P (f x)) xs
all_parts P f [] all = All-nil (λ x. All P (f x))
all_parts P f (x ∷ xs) all =
    All-cons (λ x. All P (f x)) x xs (All-left P (f x) (flat_map f xs) all)
    (all_parts P f xs (All-right P (f x) (flat_map f xs) all))

all_together : {X Y : Type 0} (P : Y → Type 0) (f : X → List Y) (xs : List X) → All (λ x. All P (f x)) xs
    → All P (flat_map f xs)
all_together P f [] all = All-nil P
all_together P f (x ∷ xs) all =
    All-append P (f x) (flat_map f xs) (All-head (λ x. All P (f x)) x xs all)
    (all_together P f xs (All-tail (λ x. All P (f x)) x xs all))

-- ---- the kinds of members

pub kinds_at : (V : List Valuation) (m : ℕ) → get_or (map kinds_of V) m [] ≡ kinds_of (get_or V m [])
kinds_at [] m = refl
kinds_at (values ∷ V) zero = refl
kinds_at (values ∷ V) (suc m) = kinds_at V m

-- each member's variables have the values of the member's valuation
abbrev ReadAll : Assignment → List (List Kind) → List Valuation → Type 0
ReadAll values K V = (m : ℕ) → Reads values m (get_or K m []) (get_or V m [])

reads_kinded : (K : List (List Kind)) (V : List Valuation) → AreKinded K V → ReadAll (member_value V) K V
reads_kinded K V kinded m =
    reads_of (member_value V) m (get_or K m []) (get_or V m []) (λ n k. refl)
    (sym (kinds_at V m) ∙ ap (λ ks. get_or ks m []) kinded)

kinded_all : (K : List (List Kind)) (V : List Valuation) → AreKinded K V → (m : ℕ)
    → IsKinded (member_value V) m (get_or K m [])
kinded_all K V kinded m =
    kinded_of (member_value V) m (get_or K m []) (get_or V m []) (λ n k. refl)
    (sym (kinds_at V m) ∙ ap (λ ks. get_or ks m []) kinded)

-- ---- one pair

abbrev Pair : Type 0
Pair = MemberAtom × MemberAtom

equal_from_equations : (values : Assignment) (K : List (List Kind)) (V : List Valuation) → ReadAll values K V
    → (pair : Pair) → IsPlain pair → All (Holds values) (pair_equations K pair) → AreEqual V pair
equal_from_equations values K V reads (left, right) plain hold =
    let terms = values_from_columns values left.member right.member (get_or K left.member []) (get_or K right.member [])
    (get_or V left.member []) (get_or V right.member []) (reads left.member) (reads right.member)
    left.atom.now.terms right.atom.now.terms plain.1 hold in
    λ i. record { relation = plain.0 i; values = terms i }

equations_from_equal : (values : Assignment) (K : List (List Kind)) (V : List Valuation) → ReadAll values K V
    → (pair : Pair) → AreEqual V pair → All (Holds values) (pair_equations K pair)
equations_from_equal values K V reads (left, right) equal =
    columns_from_values values left.member right.member (get_or K left.member []) (get_or K right.member [])
    (get_or V left.member []) (get_or V right.member []) (reads left.member) (reads right.member)
    left.atom.now.terms right.atom.now.terms (ap (λ f. f.values) equal)

all_equal : (values : Assignment) (K : List (List Kind)) (V : List Valuation) → ReadAll values K V
    → (pairs : List Pair) → All IsPlain pairs → All (Holds values) (flat_map (pair_equations K) pairs)
    → All (AreEqual V) pairs
all_equal values K V reads pairs plain hold k d below =
    equal_from_equations values K V reads (get_or pairs k d) (plain k d below)
    (all_parts (Holds values) (pair_equations K) pairs hold k d below)

all_hold : (values : Assignment) (K : List (List Kind)) (V : List Valuation) → ReadAll values K V
    → (pairs : List Pair) → All (AreEqual V) pairs → All (Holds values) (flat_map (pair_equations K) pairs)
all_hold values K V reads pairs equal =
    all_together (Holds values) (pair_equations K) pairs
    (λ k d below. equations_from_equal values K V reads (get_or pairs k d) (equal k d below))

all_kinded : (values : Assignment) (K : List (List Kind)) → ((m : ℕ) → IsKinded values m (get_or K m []))
    → (pairs : List Pair) → All (HasKinds values) (flat_map (pair_equations K) pairs)
all_kinded values K kinded pairs =
    all_together (HasKinds values) (pair_equations K) pairs (λ k d below. one (get_or pairs k d))
  where
    one : (pair : Pair) → All (HasKinds values) (pair_equations K pair)
    one (left, right) =
        columns_kinded values left.member right.member (get_or K left.member []) (get_or K right.member [])
        left.atom.now.terms right.atom.now.terms (kinded left.member) (kinded right.member)

-- the sides of a pair's equations are values and variables of the members
sides_of_option : (K : List (List Kind)) (m n : ℕ) (o : Option Kind) → slice_get (get_or K m []) n ≡ o
    → IsSideOf K (variable_side m n o)
sides_of_option K m n (Some kind) is = is
sides_of_option K m n None is = tt

side_of_term : (K : List (List Kind)) (m : ℕ) (t : Term Value) → IsSideOf K (term_side m (get_or K m []) t)
side_of_term K m (terms.Known value) = tt
side_of_term K m (terms.Variable n) = sides_of_option K m n (slice_get (get_or K m []) n) refl

sides_of_columns : (K : List (List Kind)) (l r : ℕ) (ts us : List (Term Value))
    → All (AreSidesOf K) (column_sides (term_side l (get_or K l [])) (term_side r (get_or K r [])) ts us)
sides_of_columns K l r [] us = All-nil (AreSidesOf K)
sides_of_columns K l r (t ∷ ts) [] = All-nil (AreSidesOf K)
sides_of_columns K l r (t ∷ ts) (u ∷ us) =
    All-cons (AreSidesOf K) _ _ (side_of_term K l t, side_of_term K r u) (sides_of_columns K l r ts us)

all_sides : (K : List (List Kind)) (pairs : List Pair) → All (AreSidesOf K) (flat_map (pair_equations K) pairs)
all_sides K pairs =
    all_together (AreSidesOf K) (pair_equations K) pairs (λ k d below. one (get_or pairs k d))
  where
    one : (pair : Pair) → All (AreSidesOf K) (pair_equations K pair)
    one (left, right) = sides_of_columns K left.member right.member left.atom.now.terms right.atom.now.terms

-- ---- all pairs

none_equals : (K : List (List Kind)) (pairs : List Pair) (es : List Sides) → AreEquationsOf K pairs es → AreRefuted es
    → NoneEquals K pairs
none_equals K pairs es are refuted V kinded equal =
    refuted (member_value V) (subst (All (HasKinds (member_value V))) (sym are.are)
    (all_kinded (member_value V) K (kinded_all K V kinded) pairs))
    (subst (All (Holds (member_value V))) (sym are.are)
    (all_hold (member_value V) K V (reads_kinded K V kinded) pairs equal))

-- the valuations of an assignment, from a member on
valuations_from : (ℕ → List Kind → Valuation) → List (List Kind) → List Valuation
valuations_from f [] = []
valuations_from f (ks ∷ K) = f 0 ks ∷ valuations_from (λ m. f (suc m)) K

valuation_at : (f : ℕ → List Kind → Valuation) (K : List (List Kind)) (m : ℕ) → ((n : ℕ) → f n [] ≡ [])
    → get_or (valuations_from f K) m [] ≡ f m (get_or K m [])
unfolding valuations_from
valuation_at f [] m none = sym (none m)
valuation_at f (ks ∷ K) zero none = refl
valuation_at f (ks ∷ K) (suc m) none = valuation_at (λ n. f (suc n)) K m (λ n. none (suc n))

valuations_of_kinds : (f : ℕ → List Kind → Valuation) (K : List (List Kind))
    → ((m : ℕ) (ks : List Kind) → AreOfKinds ks (f m ks))
    → AreAllOfKinds K (valuations_from f K)
unfolding valuations_from
valuations_of_kinds f [] each = tt
valuations_of_kinds f (ks ∷ K) each = (each 0 ks, valuations_of_kinds (λ m. f (suc m)) K (λ m. each (suc m)))

reads_valuations : (values : Assignment) (K : List (List Kind))
    → ReadAll values K (valuations_from (values_under values) K)
reads_valuations values K m =
    subst (Reads values m (get_or K m [])) (sym (valuation_at (values_under values) K m (λ n. refl)))
    (reads_under values m (get_or K m []))

most_general : (K : List (List Kind)) (pairs : List Pair) (es : List Sides) (bs : List ClassBinding)
    → AreEquationsOf K pairs es → AreBindingsOf es bs → IsMostGeneral K pairs bs
most_general K pairs es bs are puts =
    let is = puts.are in
    let solution = has_solution es puts.stands puts.solves in
    record {
      exact = λ V kinded. (
        (λ equal. agrees_from_kept K puts.stands es bs V is (puts.solves.kept (member_value V)
            (subst (All (Holds (member_value V))) (sym are.are)
            (all_hold (member_value V) K V (reads_kinded K V kinded) pairs equal)))),
        (λ agrees. all_equal (member_value V) K V (reads_kinded K V kinded) pairs are.plain
            (subst (All (Holds (member_value V))) are.are
            (holds_from_agrees K puts.stands es bs V is puts.solves.equal
            (subst (All (AreSidesOf K)) (sym are.are) (all_sides K pairs)) agrees))),
      );
      some = valuations_from (values_under solution.values) K;
      of_kinds = valuations_of_kinds (values_under solution.values) K
          (λ m ks. values_by_kinds _ ks (λ n k. solution.of_kinds (record { member = m; index = n; kind = k })));
      equal = all_equal solution.values K _ (reads_valuations solution.values K) pairs are.plain
          (subst (All (Holds solution.values)) are.are solution.hold);
    }

-- what is found out about the equations of pairs
pub unified : (K : List (List Kind)) (pairs : List Pair) (es : List Sides) (o : Option (List ClassBinding))
    → AreEquationsOf K pairs es
    → MatchOption o (AreRefuted es) (λ bs. AreBindingsOf es bs)
    → MatchOption o (NoneEquals K pairs) (λ bs. IsMostGeneral K pairs bs)
unified K pairs es None are refuted = none_equals K pairs es are refuted
unified K pairs es (Some bs) are bindings = most_general K pairs es bs are bindings

-- ---- pair by pair

pub tuples_same : (K : List (List Kind)) (l r : Tuple) (p : Pair)
    → l.member ≡ p.0.member → l.kinds.now ≡ get_or K p.0.member [] → l.terms.now ≡ p.0.atom.now.terms
    → r.member ≡ p.1.member → r.kinds.now ≡ get_or K p.1.member [] → r.terms.now ≡ p.1.atom.now.terms
    → tuple_equations l r ≡ pair_equations K p
tuples_same K l r p m k t n j u = λ i. column_sides (term_side (m i) (k i)) (term_side (n i) (j i)) (t i) (u i)

-- one more pair
pub pairs_more : (K : List (List Kind)) (pairs : List Pair) (i : ℕ) (p : Pair) (old new fresh : List Sides)
    → i < length pairs → p ≡ get_or pairs i p → AreEquationsOf K (take i pairs) old → IsPlain p
    → new ≡ old ++ fresh → fresh ≡ pair_equations K p → All AreWithinBounds new
    → AreEquationsOf K (take (i + 1) pairs) new
pairs_more K pairs i p old new fresh below is so_far plain pushed are bounds =
    let more : take (i + 1) pairs ≡ take i pairs ++ p ∷ [] = take_more pairs i p below
    ∙ ap (λ x. take i pairs ++ x ∷ []) (sym is) in
    record {
      are = pushed ∙ (ap (λ xs. old ++ xs) are ∙ (ap (λ xs. xs ++ pair_equations K p) so_far.are
          ∙ (flat_map_more (pair_equations K) [] (take i pairs) p ∙ ap (flat_map (pair_equations K)) (sym more))));
      plain = subst (All IsPlain) (sym more) (All-push IsPlain (take i pairs) p so_far.plain plain);
      bounds = bounds;
    }
