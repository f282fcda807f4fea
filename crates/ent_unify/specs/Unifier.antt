-- Unifiers: what stands for the variables of several members.
use Rattle.std.specs.Prelude.{◌≡◌, ◌↔◌, List, [], ◌∷◌, ◌++◌, map, length, All, Option, Some, None}
use Rattle.std.specs.Prelude.{if◌then◌else◌, slice_get, slice_index_or, IfSome}
use Rattle.std.specs.List.{flat_map}
use Rattle.std.specs.Borrow.{Bor}
use Rattle.ent_value.specs.Value.{kinds_of}
use Rattle.ent_value.specs.declared.value.Kind.{Kind}
use Rattle.ent_value.specs.declared.value.Value.{Value}
use Rattle.ent_semantics.specs.Entangled.{Valuation}
use Rattle.ent_semantics.specs.Term.{no_value}
use Rattle.ent_semantics.specs.declared.entangled.Atom.{Atom}
use Rattle.ent_semantics.specs.Pool.{AreOfKinds, fact_under}
use Rattle.ent_unify.specs.declared.unifier.ClassBinding.{ClassBinding}
use Rattle.ent_unify.specs.declared.unifier.MemberAtom.{MemberAtom}
use Rattle.ent_unify.specs.declared.variable.Representative.{Representative}
use Rattle.ent_unify.specs.declared.variable.Representative.TheVariants.{Constant, Variable}
use Rattle.ent_unify.specs.declared.variable.Variable.{Variable as Variables}
use Rattle.ent_unify.specs.Equation.{Sides, AreWithinBounds, Solves}
use Rattle.ent_unify.specs.Side.{same_variable, Substitution, resolved}
use Rattle.ent_unify.specs.Tuple.{term_side, column_sides}

-- the kinds of the variables of each member
abbrev pub kinds_seen : List (Bor (List Kind)) → List (List Kind)
kinds_seen kinds = map (λ k. k.now) kinds

-- a valuation for each member, each value being of its variable's kind
abbrev pub AreKinded : List (List Kind) → List Valuation → Type 0
AreKinded kinds valuations = map kinds_of valuations ≡ kinds

-- the same, within the bounds of values
abbrev pub AreAllOfKinds : List (List Kind) → List Valuation → Type 0
AreAllOfKinds [] [] = Unit {0}
AreAllOfKinds [] (values ∷ more) = ⊥
AreAllOfKinds (kinds ∷ others) [] = ⊥
AreAllOfKinds (kinds ∷ others) (values ∷ more) = AreOfKinds kinds values × AreAllOfKinds others more

-- two atoms are one fact, each under its member's valuation
abbrev pub AreEqual : List Valuation → MemberAtom × MemberAtom → Type 0
AreEqual valuations (left, right) =
    fact_under (slice_index_or valuations left.member []) left.atom.now
    ≡ fact_under (slice_index_or valuations right.member []) right.atom.now

-- no values of the kinds make all pairs equal, be they within bounds or not
abbrev pub NoneEquals : List (List Kind) → List (MemberAtom × MemberAtom) → Type 0
NoneEquals kinds pairs =
    (valuations : List Valuation) → AreKinded kinds valuations → All (AreEqual valuations) pairs → ⊥

-- what stands for a variable's class
abbrev pub class_of : List ClassBinding → Variables → Representative
class_of [] x = Variable x
class_of (binding ∷ bindings) x =
    if same_variable binding.variable x then binding.stands else class_of bindings x

abbrev pub constant_in : Representative → Option Value
constant_in (Constant value) = Some value
constant_in (Variable x) = None

-- the value that all of a variable's class must have
abbrev pub constant_of : List ClassBinding → Variables → Option Value
constant_of bindings x = constant_in (class_of bindings x)

-- the value of a member's variable
abbrev pub member_value : List Valuation → Variables → Value
member_value valuations x = slice_index_or (slice_index_or valuations x.member []) x.index no_value

-- no values of the kinds make two atoms one fact, be they within bounds or not
abbrev pub AreApart : List Kind → Atom Value → List Kind → Atom Value → Type 0
AreApart kinds atom others other =
    (values other_values : Valuation) → kinds_of values ≡ kinds → kinds_of other_values ≡ others
    → fact_under values atom ≡ fact_under other_values other → ⊥

-- a variable of one of the members, of its kind
abbrev pub IsVariableOf : List (List Kind) → Variables → Type 0
IsVariableOf kinds x = slice_get (slice_index_or kinds x.member []) x.index ≡ Some x.kind

-- valuations give one value to all of the members' variables that are of one class, and to those of a class with a
-- constant that one
pub record Agrees (kinds : List (List Kind)) (bindings : List ClassBinding) (valuations : List Valuation) : Type 0 where
  pub classes : (x y : Variables) → IsVariableOf kinds x → IsVariableOf kinds y
      → class_of bindings x ≡ class_of bindings y → member_value valuations x ≡ member_value valuations y
  pub constants : (x : Variables) → IsVariableOf kinds x
      → IfSome (constant_of bindings x) (λ value. member_value valuations x ≡ value)

-- values of the kinds make all pairs equal exactly where they agree with the unifier, and there are such values
pub record IsMostGeneral (kinds : List (List Kind)) (pairs : List (MemberAtom × MemberAtom))
    (bindings : List ClassBinding) : Type 0 where
  pub exact : (valuations : List Valuation) → AreKinded kinds valuations
      → All (AreEqual valuations) pairs ↔ Agrees kinds bindings valuations
  pub some : List Valuation
  pub of_kinds : AreAllOfKinds kinds some
  pub equal : All (AreEqual some) pairs

-- what is put down for a side
abbrev pub binding_of : Representative → Representative → List ClassBinding
binding_of (Constant value) stands = []
binding_of (Variable x) stands = record { variable = x; stands = stands } ∷ []

abbrev pub bindings_under : Substitution → Sides → List ClassBinding
bindings_under stands equation =
    binding_of equation.0 (resolved stands equation.0) ++ binding_of equation.1 (resolved stands equation.1)

-- the equations of a pair of atoms
abbrev pub pair_equations : List (List Kind) → MemberAtom × MemberAtom → List Sides
pair_equations kinds (left, right) =
    column_sides (term_side left.member (slice_index_or kinds left.member []))
    (term_side right.member (slice_index_or kinds right.member [])) left.atom.now.terms right.atom.now.terms

-- the atoms of a pair have one relation and one length
abbrev pub IsPlain : MemberAtom × MemberAtom → Type 0
IsPlain (left, right) =
    (left.atom.now.relation ≡ right.atom.now.relation)
    × (length left.atom.now.terms ≡ length right.atom.now.terms)

-- the equations of pairs of atoms that may be equal
pub record AreEquationsOf (kinds : List (List Kind)) (pairs : List (MemberAtom × MemberAtom)) (equations : List Sides)
    : Type 0 where
  pub are : equations ≡ flat_map (pair_equations kinds) pairs
  pub plain : All IsPlain pairs
  pub bounds : All AreWithinBounds equations

-- the bindings of a solution
pub record AreBindingsOf (equations : List Sides) (bindings : List ClassBinding) : Type 0 where
  pub stands : Substitution
  pub solves : Solves equations (length equations) stands
  pub are : bindings ≡ flat_map (bindings_under stands) equations
