-- Equations between values and variables.
use Rattle.std.specs.Prelude.{◌≡◌, ◌<◌, ℕ, Bool, true, false, List, length, map, All, slice_index_or}
use Rattle.ent_value.specs.Value.{kind_of}
use Rattle.ent_semantics.specs.Kinds.{IsOfKind}
use Rattle.ent_unify.specs.declared.equation.Equation.{Equation}
use Rattle.ent_unify.specs.declared.variable.Representative.{Representative}
use Rattle.ent_unify.specs.declared.variable.Variable.{Variable as Variables}
use Rattle.ent_unify.specs.Side.{seen, Assignment, worth, side_kind, IsWithinBounds, Substitution, resolved}

-- the two sides of an equation
abbrev pub Sides : Type 0
Sides = Representative × Representative

abbrev pub seen_equation : Equation → Sides
seen_equation equation = (seen equation.left, seen equation.right)

-- both sides are worth the same
abbrev pub Holds : Assignment → Sides → Type 0
Holds values equation = worth values equation.0 ≡ worth values equation.1

-- each side's value is of its kind
abbrev pub HasKinds : Assignment → Sides → Type 0
HasKinds values equation =
    (kind_of (worth values equation.0) ≡ side_kind equation.0)
    × (kind_of (worth values equation.1) ≡ side_kind equation.1)

abbrev pub AreWithinBounds : Sides → Type 0
AreWithinBounds equation = IsWithinBounds equation.0 × IsWithinBounds equation.1

abbrev pub resolved_both : Substitution → Sides → Sides
resolved_both stands equation = (resolved stands equation.0, resolved stands equation.1)

-- What stands for each variable makes the first n equations equal, is of the variable's kind, and is what each
-- assignment under which all equations hold has to agree with.
pub record Solves (equations : List Sides) (n : ℕ) (stands : Substitution) : Type 0 where
  pub equal : (k : ℕ) (d : Sides) → k < n
      → resolved stands (slice_index_or equations k d).0 ≡ resolved stands (slice_index_or equations k d).1
  pub kinds : (x : Variables) → side_kind (stands x) ≡ x.kind
  pub bounds : (x : Variables) → IsWithinBounds (stands x)
  pub kept : (values : Assignment) → All (Holds values) equations
      → (x : Variables) → worth values (stands x) ≡ values x

-- no values of the kinds make the equations hold
abbrev pub AreRefuted : List Sides → Type 0
AreRefuted equations = (values : Assignment) → All (HasKinds values) equations → All (Holds values) equations → ⊥

-- the first n equations are solved, and what stands for each variable is put in its place in others
pub record PutsSolution (equations : List Sides) (n : ℕ) (old new : List Sides) : Type 0 where
  pub stands : Substitution
  pub solves : Solves equations n stands
  pub put : new ≡ map (resolved_both stands) old

-- what is found out about equations
abbrev pub Settles : List Sides → List Sides → List Sides → Bool → Type 0
Settles equations old new true = PutsSolution equations (length equations) old new
Settles equations old new false = AreRefuted equations

-- values within their kinds' bounds make the equations hold
pub record HaveSolution (equations : List Sides) : Type 0 where
  pub values : Assignment
  pub of_kinds : (x : Variables) → IsOfKind x.kind (values x)
  pub hold : All (Holds values) equations

-- whether equations have a solution
abbrev pub IsDecided : List Sides → Bool → Type 0
IsDecided equations true = HaveSolution equations
IsDecided equations false = AreRefuted equations

-- an equation as code has it is the one at a place, and within bounds
abbrev pub IsAtPlace : List Sides → ℕ → Equation → Type 0
IsAtPlace equations k equation =
    ((d : Sides) → seen_equation equation ≡ slice_index_or equations k d) × AreWithinBounds (seen_equation equation)
