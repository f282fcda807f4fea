-- The terms of an atom of a member as values and variables.
use Rattle.std.specs.Prelude.{◌≢◌, ℕ, List, [], ◌∷◌, Option, Some, None, slice_get}
use Rattle.ent_value.specs.declared.value.Kind.{Kind}
use Rattle.ent_value.specs.declared.value.Value.{Value}
use Rattle.ent_semantics.specs.Term.{no_value}
use Rattle.ent_semantics.specs.declared.entangled.Term.{Term}
use Rattle.ent_semantics.specs.declared.entangled.Term.TheVariants as terms
use Rattle.ent_unify.specs.declared.tuple.Tuple.{Tuple}
use Rattle.ent_unify.specs.declared.variable.Representative.{Representative}
use Rattle.ent_unify.specs.declared.variable.Representative.TheVariants.{Constant, Variable}
use Rattle.ent_unify.specs.Equation.{Sides}

-- a variable of a member whose kind is known; one that isn't there stands for no value
abbrev pub variable_side : ℕ → ℕ → Option Kind → Representative
variable_side member index (Some kind) = Variable (record { member = member; index = index; kind = kind })
variable_side member index None = Constant no_value

abbrev pub term_side : ℕ → List Kind → Term Value → Representative
term_side member kinds (terms.Known value) = Constant value
term_side member kinds (terms.Variable index) = variable_side member index (slice_get kinds index)

-- column by column
abbrev pub column_sides : (Term Value → Representative) → (Term Value → Representative)
    → List (Term Value) → List (Term Value) → List Sides
column_sides left right [] others = []
column_sides left right (term ∷ terms) [] = []
column_sides left right (term ∷ terms) (other ∷ others) =
    (left term, right other) ∷ column_sides left right terms others

-- the equations under which two tuples are one
abbrev pub tuple_equations : Tuple → Tuple → List Sides
tuple_equations left right =
    column_sides (term_side left.member left.kinds.now) (term_side right.member right.kinds.now)
    left.terms.now right.terms.now

-- two terms are values that differ
abbrev pub AreOtherValues : Term Value → Term Value → Type 0
AreOtherValues (terms.Known value) (terms.Known other) = value ≢ other
AreOtherValues (terms.Known value) (terms.Variable index) = ⊥
AreOtherValues (terms.Variable index) other = ⊥
