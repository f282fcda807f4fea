-- Faults of values that should be bound, in words.
use Rattle.std.specs.Prelude.{ℕ, List, [], ◌∷◌, ◌++◌, codes, Option, Some, None, slice_get}
use Rattle.ent_bound.specs.declared.fault.BindingFault.{BindingFault}
use Rattle.ent_bound.specs.declared.fault.BindingFault.TheVariants.{Value as ValueOf, Twice, SetByScript, Unused}
use Rattle.ent_bound.specs.declared.variable.BoundVariable.{BoundVariable}
use Rattle.ent_room_calls.specs.Fault.{binding_variable}

abbrev pub name_of : Option BoundVariable → List ℕ
name_of None = []
name_of (Some variable) = variable.name

-- what is said behind the name
abbrev pub binding_words : BindingFault → List ℕ
binding_words (ValueOf number fault) = codes " has a value that can't be bound"
binding_words (Twice number) = codes " is bound twice"
binding_words (SetByScript number) = codes " is set by the script itself, so no value is bound to it"
binding_words (Unused number) = codes " isn't used by the script, so no value is bound to it"

-- a line, with its end: the host variable's name, and what is wrong
abbrev pub binding_line : List BoundVariable → BindingFault → List ℕ
binding_line variables fault =
    64 ∷ (name_of (slice_get variables (binding_variable fault)) ++ (binding_words fault ++ 10 ∷ []))
