-- Atoms of two statements unify where their equations have a solution.
use Rattle.std.proofs.Common.{◌≡◌, ℕ, zero, suc, List, [], ◌∷◌, length, get_or, refl, sym, ◌∙◌, ap, subst, Option}
use Rattle.std.proofs.Common.{Some, None, Bool, true, false, true≢false}
use Rattle.std.specs.Prelude.{slice_get, IsTrue, ◌↔◌}
use Rattle.ent_value.specs.Value.{kind_of, kinds_of}
use Rattle.ent_value.specs.declared.value.Kind.{Kind}
use Rattle.ent_value.specs.declared.value.Kind.TheVariants as kinds
use Rattle.ent_value.specs.declared.value.Value.{Value}
use Rattle.ent_value.specs.declared.value.Value.TheVariants.{Int, Text}
use Rattle.ent_semantics.specs.Entangled.{Valuation}
use Rattle.ent_semantics.specs.Kinds.{IsOfKind}
use Rattle.ent_semantics.specs.Term.{no_value}
use Rattle.ent_semantics.specs.Form.{term_worth}
use Rattle.ent_semantics.specs.declared.entangled.Atom.{Atom}
use Rattle.ent_semantics.specs.declared.entangled.Term.{Term}
use Rattle.ent_semantics.specs.Pool.{AreOfKinds, Unify, fact_under}
use Rattle.ent_unify.specs.Side.{Assignment, worth, side_kind}
use Rattle.ent_unify.specs.Equation.{HaveSolution, AreRefuted, IsDecided}
use Rattle.ent_unify.specs.Tuple.{variable_side, term_side, column_sides}
use Rattle.ent_unify.specs.Unifier.{AreApart, member_value}
use Rattle.ent_unify.proofs.Places.{length-map}
use Rattle.ent_unify.proofs.Tuples.{Reads, IsKinded, columns_kinded, values_from_columns, columns_from_values}

-- ---- a valuation of an assignment

-- a value for each kind, by its place
abbrev pub values_by : (ℕ → Kind → Value) → List Kind → Valuation
values_by f [] = []
values_by f (k ∷ ks) = f 0 k ∷ values_by (λ n. f (suc n)) ks

by_kind : (Kind → Value) → Option Kind → Value
by_kind f (Some k) = f k
by_kind f None = no_value

values_by_at : (f : ℕ → Kind → Value) (ks : List Kind) (n : ℕ)
    → by_kind (f n) (slice_get ks n) ≡ get_or (values_by f ks) n no_value
unfolding by_kind
values_by_at f [] n = refl
values_by_at f (k ∷ ks) zero = refl
values_by_at f (k ∷ ks) (suc n) = values_by_at (λ i. f (suc i)) ks n

pub values_by_kinds : (f : ℕ → Kind → Value) (ks : List Kind) → ((n : ℕ) (k : Kind) → IsOfKind k (f n k))
    → AreOfKinds ks (values_by f ks)
values_by_kinds f [] h = tt
values_by_kinds f (k ∷ ks) h = (h 0 k, values_by_kinds (λ n. f (suc n)) ks (λ n. h (suc n)))

-- the values of a member's variables under an assignment
abbrev pub values_under : Assignment → ℕ → List Kind → Valuation
values_under values member ks = values_by (λ n k. values (record { member = member; index = n; kind = k })) ks

worth_by_kind : (values : Assignment) (m n : ℕ) (o : Option Kind)
    → worth values (variable_side m n o) ≡ by_kind (λ k. values (record { member = m; index = n; kind = k })) o
unfolding by_kind
worth_by_kind values m n (Some k) = refl
worth_by_kind values m n None = refl

pub reads_under : (values : Assignment) (m : ℕ) (ks : List Kind) → Reads values m ks (values_under values m ks)
reads_under values m ks n =
    worth_by_kind values m n (slice_get ks n)
    ∙ values_by_at (λ n k. values (record { member = m; index = n; kind = k })) ks n

-- ---- an assignment of valuations

kind_of_kind : (k : Kind) (v : Value) → IsOfKind k v → kind_of v ≡ k
kind_of_kind kinds.Int (Int number) h = refl
kind_of_kind kinds.Int (Text bytes) h = absurd h
kind_of_kind kinds.Text (Int number) h = absurd h
kind_of_kind kinds.Text (Text bytes) h = refl

pub kinds_from : (ks : List Kind) (vs : Valuation) → AreOfKinds ks vs → kinds_of vs ≡ ks
kinds_from [] [] h = refl
kinds_from [] (v ∷ vs) h = absurd h
kinds_from (k ∷ ks) [] h = absurd h
kinds_from (k ∷ ks) (v ∷ vs) h =
    let first = kind_of_kind k v h.0 in
    let rest = kinds_from ks vs h.1 in
    λ i. first i ∷ rest i

reads_at : (values : Assignment) (m i : ℕ) (V : Valuation) (n : ℕ)
    → ((k : Kind) → values (record { member = m; index = i; kind = k }) ≡ get_or V n no_value)
    → worth values (variable_side m i (slice_get (kinds_of V) n)) ≡ get_or V n no_value
reads_at values m i [] n is = refl
reads_at values m i (v ∷ V) zero is = is (kind_of v)
reads_at values m i (v ∷ V) (suc n) is = reads_at values m i V n is

kinded_at : (values : Assignment) (m i : ℕ) (V : Valuation) (n : ℕ)
    → ((k : Kind) → values (record { member = m; index = i; kind = k }) ≡ get_or V n no_value)
    → kind_of (worth values (variable_side m i (slice_get (kinds_of V) n))) ≡ side_kind
    (variable_side m i (slice_get (kinds_of V) n))
kinded_at values m i [] n is = refl
kinded_at values m i (v ∷ V) zero is = ap kind_of (is (kind_of v))
kinded_at values m i (v ∷ V) (suc n) is = kinded_at values m i V n is

-- an assignment whose values for a member's variables are those of a valuation
abbrev pub GivesMember : Assignment → ℕ → Valuation → Type 0
GivesMember values m V = (n : ℕ) (k : Kind) → values (record { member = m; index = n; kind = k }) ≡ get_or V n no_value

pub reads_of : (values : Assignment) (m : ℕ) (ks : List Kind) (V : Valuation) → GivesMember values m V
    → kinds_of V ≡ ks → Reads values m ks V
reads_of values m ks V gives kinds = subst (λ js. Reads values m js V) kinds (λ n. reads_at values m n V n (gives n))

pub kinded_of : (values : Assignment) (m : ℕ) (ks : List Kind) (V : Valuation) → GivesMember values m V
    → kinds_of V ≡ ks → IsKinded values m ks
kinded_of values m ks V gives kinds = subst (λ js. IsKinded values m js) kinds (λ n. kinded_at values m n V n (gives n))

-- ---- two atoms

pub unify_from_solution : (ks : List Kind) (atom : Atom Value) (js : List Kind) (other : Atom Value)
    → atom.relation ≡ other.relation → length atom.terms ≡ length other.terms
    → HaveSolution (column_sides (term_side 0 ks) (term_side 1 js) atom.terms other.terms) → Unify ks atom js other
unify_from_solution ks atom js other relation same solution =
    let v = solution.values in
    let values = values_from_columns v 0 1 ks js (values_under v 0 ks) (values_under v 1 js)
    (reads_under v 0 ks) (reads_under v 1 js) atom.terms other.terms same solution.hold in
    record {
      values = values_under v 0 ks;
      of_kinds = values_by_kinds _ ks (λ n k. solution.of_kinds (record { member = 0; index = n; kind = k }));
      other_values = values_under v 1 js;
      of_other_kinds = values_by_kinds _ js (λ n k. solution.of_kinds (record { member = 1; index = n; kind = k }));
      one_fact = λ i. record { relation = relation i; values = values i };
    }

pub are_apart : (ks : List Kind) (atom : Atom Value) (js : List Kind) (other : Atom Value)
    → AreRefuted (column_sides (term_side 0 ks) (term_side 1 js) atom.terms other.terms) → AreApart ks atom js other
are_apart ks atom js other refuted values others left right one_fact =
    let v = member_value (values ∷ others ∷ []) in
    refuted v
    (columns_kinded v 0 1 ks js atom.terms other.terms (kinded_of v 0 ks values (λ n k. refl) left)
    (kinded_of v 1 js others (λ n k. refl) right))
    (columns_from_values v 0 1 ks js values others (reads_of v 0 ks values (λ n k. refl) left)
    (reads_of v 1 js others (λ n k. refl) right) atom.terms other.terms (ap (λ f. f.values) one_fact))

-- atoms that values within bounds make one fact aren't apart
pub not_unify : (ks : List Kind) (atom : Atom Value) (js : List Kind) (other : Atom Value)
    → AreApart ks atom js other → Unify ks atom js other → ⊥
not_unify ks atom js other apart u =
    apart u.values u.other_values (kinds_from ks u.values u.of_kinds) (kinds_from js u.other_values u.of_other_kinds)
    u.one_fact

pub other_length : (atom other : Atom Value) (values others : Valuation)
    → fact_under values atom ≡ fact_under others other → length atom.terms ≡ length other.terms
other_length atom other values others one_fact =
    sym (length-map (term_worth (λ value. value) values) atom.terms)
    ∙ (ap (λ f. length f.values) one_fact ∙ length-map (term_worth (λ value. value) others) other.terms)

-- what is told of two atoms: whether they unify, and where they don't, that they are apart
pub record AreTold (ks : List Kind) (atom : Atom Value) (js : List Kind) (other : Atom Value) (b : Bool) : Type 0 where
  pub unify : IsTrue b ↔ Unify ks atom js other
  pub apart : b ≡ false → AreApart ks atom js other

pub told_apart : (ks : List Kind) (atom : Atom Value) (js : List Kind) (other : Atom Value) → AreApart ks atom js other
    → AreTold ks atom js other false
told_apart ks atom js other apart =
    record {
      unify = (λ f. absurd (true≢false (sym f)), λ u. absurd (not_unify ks atom js other apart u));
      apart = λ f. apart;
    }

-- what the equations of two tuples tell of their atoms
pub told_refuted : (ks : List Kind) (atom : Atom Value) (js : List Kind) (other : Atom Value)
    (ts us : List (Term Value))
    → ts ≡ atom.terms → us ≡ other.terms → AreRefuted (column_sides (term_side 0 ks) (term_side 1 js) ts us)
    → AreTold ks atom js other false
told_refuted ks atom js other ts us left right refuted =
    let P : List (Term Value) → List (Term Value)
    → Type 0 = λ xs ys. AreRefuted (column_sides (term_side 0 ks) (term_side 1 js) xs ys) in
    let first : P atom.terms us = subst (λ xs. P xs us) left refuted in
    let second : P atom.terms other.terms = subst (P atom.terms) right first in
    told_apart ks atom js other (are_apart ks atom js other second)

pub told_by : (ks : List Kind) (atom : Atom Value) (js : List Kind) (other : Atom Value)
    (ts us : List (Term Value)) (b : Bool)
    → atom.relation ≡ other.relation → length atom.terms ≡ length other.terms → ts ≡ atom.terms → us ≡ other.terms
    → IsDecided (column_sides (term_side 0 ks) (term_side 1 js) ts us) b → AreTold ks atom js other b
told_by ks atom js other ts us true relation same left right decided =
    let P : List (Term Value) → List (Term Value)
    → Type 0 = λ xs ys. HaveSolution (column_sides (term_side 0 ks) (term_side 1 js) xs ys) in
    let first : P atom.terms us = subst (λ xs. P xs us) left decided in
    let second : P atom.terms other.terms = subst (P atom.terms) right first in
    record {
      unify = (λ h. unify_from_solution ks atom js other relation same second, λ u. refl);
      apart = λ f. absurd (true≢false f);
    }
told_by ks atom js other ts us false relation same left right decided =
    told_refuted ks atom js other ts us left right decided
