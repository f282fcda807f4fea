-- Which variables can't be bound in a script, and which fault is first.
use Rattle.std.specs.Prelude.{◌≡◌, Bool, List, [], ◌∷◌, ◌++◌, length, Option, Some, None}
use Rattle.std.specs.Prelude.{if◌then◌else◌}
use Rattle.std.specs.List.{list_any}
use Rattle.ent_value.specs.declared.refusal.Refusal.{Refusal}
use Rattle.ent_value.specs.declared.refusal.Refusal.TheVariants.{Memory, Fault}
use Rattle.ent_tree.specs.declared.script.Script.{Script}
use Rattle.ent_semantics.specs.Database.{Name, same_name}
use Rattle.ent_bound.specs.Values.{is_set, is_used}
use Rattle.ent_bound.specs.declared.fault.BindingFault.{BindingFault}
use Rattle.ent_bound.specs.declared.fault.BindingFault.TheVariants.{Twice, SetByScript, Unused}
use Rattle.ent_bound.specs.declared.variable.BoundVariable.{BoundVariable}

-- one of these variables has the name
abbrev pub is_bound : List BoundVariable → Name → Bool
is_bound variables name = list_any (λ variable. same_name variable.name name) variables

-- what is wrong with a variable behind earlier ones: one of them has its name, else the script sets it, else the script
-- doesn't use it
abbrev pub variable_fault : Script → List BoundVariable → Name → Option BindingFault
variable_fault script earlier name =
    if is_bound earlier name then Some (Twice (length earlier))
    else (if is_set script name then Some (SetByScript (length earlier))
    else (if is_used script name then None else Some (Unused (length earlier))))

abbrev pub or_else : Option BindingFault → Option BindingFault → Option BindingFault
or_else (Some fault) other = Some fault
or_else None other = other

-- the fault of the first variable, of those behind earlier ones, that has one
abbrev pub fault_behind : Script → List BoundVariable → List BoundVariable → Option BindingFault
fault_behind script earlier [] = None
fault_behind script earlier (variable ∷ more) =
    or_else (variable_fault script earlier variable.name) (fault_behind script (earlier ++ variable ∷ []) more)

-- the first fault of all
abbrev pub first_fault : List BoundVariable → Script → Option BindingFault
first_fault variables script = fault_behind script [] variables

-- a binding is refused for its first fault, or memory ran out
abbrev pub IsRefusedFor : Option BindingFault → Refusal BindingFault → Type 0
IsRefusedFor first Memory = Unit {0}
IsRefusedFor first (Fault fault) = first ≡ Some fault
