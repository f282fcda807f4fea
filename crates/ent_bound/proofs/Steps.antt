-- One part more, and one variable more.
use Rattle.std.proofs.Common.{◌≡◌, ℕ, ◌+◌, ◌<◌, List, [], ◌∷◌, ◌++◌, map, take, drop, get_or, length, Option, sym, ap}
use Rattle.std.proofs.Common.{◌∙◌}
use Rattle.std.proofs.Common.{Some, None, add-one, drop-cons}
use Rattle.std.proofs.lemmas.List.{map_more, take_more}
use Rattle.ent_tree.specs.declared.script.Script.{Script}
use Rattle.ent_bound.specs.Refused.{fault_behind, or_else, variable_fault}
use Rattle.ent_bound.specs.declared.fault.BindingFault.{BindingFault}
use Rattle.ent_bound.specs.declared.variable.BoundVariable.{BoundVariable}

-- what is made of the parts up to the next
pub mapped_more : {X Y : Type 0} (f : X → Y) (xs : List X) (i : ℕ) (x : X) (made : Y) (old new : List Y) → i < length xs
    → x ≡ get_or xs i x → made ≡ f x → old ≡ map f (take i xs) → new ≡ old ++ made ∷ []
    → new ≡ map f (take (i + 1) xs)
mapped_more f xs i x made old new lt at is before now = let more = map_more f xs i x lt in cc

-- of the variables from a place on, the one there comes first
pub next_variable : (script : Script) (variables : List BoundVariable) (i : ℕ) (variable : BoundVariable)
    → i < length variables → variable ≡ get_or variables i variable
    → fault_behind script (take i variables) (drop i variables)
    ≡ or_else (variable_fault script (take i variables) variable.name)
    (fault_behind script (take (i + 1) variables) (drop (i + 1) variables))
next_variable script variables i variable lt at =
    let rest : drop i variables ≡ variable ∷ drop (i + 1) variables =
    drop-cons variables i variable lt
    ∙ ap (λ (n : ℕ). get_or variables i variable ∷ drop n variables) (sym (add-one i))
    ∙ ap (λ (other : BoundVariable). other ∷ drop (i + 1) variables) (sym at)
    in
    let before : take i variables ++ variable ∷ [] ≡ take (i + 1) variables =
    sym (take_more variables i variable lt
    ∙ ap (λ (other : BoundVariable). take i variables ++ other ∷ []) (sym at))
    in
    ap (fault_behind script (take i variables)) rest
    ∙ ap (λ (earlier : List BoundVariable). or_else (variable_fault script (take i variables) variable.name)
    (fault_behind script earlier (drop (i + 1) variables))) before

-- a fault there is the first
pub fault_there : (script : Script) (variables : List BoundVariable) (i : ℕ) (variable : BoundVariable)
    (fault : BindingFault) → i < length variables → variable ≡ get_or variables i variable
    → Some fault ≡ variable_fault script (take i variables) variable.name
    → Some fault ≡ fault_behind script (take i variables) (drop i variables)
fault_there script variables i variable fault lt at is =
    ap (λ (first : Option BindingFault). or_else first (fault_behind script (take (i + 1) variables)
    (drop (i + 1) variables))) is
    ∙ sym (next_variable script variables i variable lt at)

-- none there, and the rest is looked at
pub none_there : (script : Script) (variables : List BoundVariable) (i : ℕ) (variable : BoundVariable)
    → i < length variables → variable ≡ get_or variables i variable
    → None ≡ variable_fault script (take i variables) variable.name
    → fault_behind script (take (i + 1) variables) (drop (i + 1) variables)
    ≡ fault_behind script (take i variables) (drop i variables)
none_there script variables i variable lt at is =
    ap (λ (first : Option BindingFault). or_else first (fault_behind script (take (i + 1) variables)
    (drop (i + 1) variables))) is
    ∙ sym (next_variable script variables i variable lt at)
