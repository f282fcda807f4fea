-- Values and variables, and what they are worth under an assignment of values to variables.
use Rattle.std.specs.Prelude.{◌==◌, ◌&&◌, Bool, if◌then◌else◌}
use Rattle.ent_value.specs.Kinds.{same_kind}
use Rattle.ent_value.specs.Value.{kind_of}
use Rattle.ent_value.specs.declared.value.Kind.{Kind}
use Rattle.ent_value.specs.declared.value.Value.{Value}
use Rattle.ent_semantics.specs.Kinds.{IsOfKind}
use Rattle.ent_unify.specs.declared.side.Side.{Side}
use Rattle.ent_unify.specs.declared.side.Side.TheVariants as sides
use Rattle.ent_unify.specs.declared.variable.Representative.{Representative}
use Rattle.ent_unify.specs.declared.variable.Representative.TheVariants.{Constant, Variable}
use Rattle.ent_unify.specs.declared.variable.Variable.{Variable as Variables}

-- a borrowed side as the value or the variable that it is
abbrev pub seen : Side → Representative
seen (sides.Constant value) = Constant value.now
seen (sides.Variable x) = Variable x

-- a value for each variable
abbrev pub Assignment : Type 0
Assignment = Variables → Value

abbrev pub worth : Assignment → Representative → Value
worth values (Constant value) = value
worth values (Variable x) = values x

abbrev pub side_kind : Representative → Kind
side_kind (Constant value) = kind_of value
side_kind (Variable x) = x.kind

-- a value is within the bounds of its kind
abbrev pub IsWithinBounds : Representative → Type 0
IsWithinBounds (Constant value) = IsOfKind (kind_of value) value
IsWithinBounds (Variable x) = Unit {0}

abbrev pub same_variable : Variables → Variables → Bool
same_variable x y = (x.member == y.member) && ((x.index == y.index) && same_kind x.kind y.kind)

-- what stands for each variable
abbrev pub Substitution : Type 0
Substitution = Variables → Representative

abbrev pub resolved : Substitution → Representative → Representative
resolved stands (Constant value) = Constant value
resolved stands (Variable x) = stands x

-- another side in the place of one variable
abbrev pub single : Variables → Representative → Substitution
single x by y = if same_variable x y then by else Variable y
