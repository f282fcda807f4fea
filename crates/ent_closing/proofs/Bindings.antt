-- One binding more.
use Rattle.std.proofs.Common.{◌≡◌, ℕ, ◌+◌, ◌<◌, List, [], ◌∷◌, ◌++◌, length, take, get_or, cond, Option, Some, refl}
use Rattle.std.proofs.Common.{sym, ap, ◌∙◌}
use Rattle.std.proofs.lemmas.List.{take_more}
use Rattle.ent_value.specs.declared.value.Value.{Value}
use Rattle.ent_semantics.specs.Database.{Name, Environment, same_name, nothing_bound, with_value, with_values}
use Rattle.ent_closing.specs.Environment.{environment_of}

with_values-push : (environment : Environment) (bound : List (Name × Value)) (binding : Name × Value)
    → with_values environment (bound ++ binding ∷ []) ≡ with_value (with_values environment bound) binding.0 binding.1
with_values-push environment [] binding = refl
with_values-push environment (first ∷ bound) binding =
    with_values-push (with_value environment first.0 first.1) bound binding

pub environment_of-push : (bound : List (Name × Value)) (binding : Name × Value)
    → environment_of (bound ++ binding ∷ []) ≡ with_value (environment_of bound) binding.0 binding.1
environment_of-push bound binding = with_values-push nothing_bound bound binding

-- what a host variable is bound to once one binding more was looked at
pub bound_more : (bindings : List (Name × Value)) (index : ℕ) (binding : Name × Value) (variable : Name)
    (found next : Option Value) → index < length bindings → binding ≡ get_or bindings index binding
    → found ≡ environment_of (take index bindings) variable
    → next ≡ cond (same_name binding.0 variable) (Some binding.1) found
    → next ≡ environment_of (take (index + 1) bindings) variable
bound_more bindings index binding variable found next lt at before is =
    is
    ∙ ap (cond (same_name binding.0 variable) (Some binding.1)) before
    ∙ sym (ap (λ (environment : Environment). environment variable)
    (ap environment_of (take_more bindings index binding lt
    ∙ ap (λ b. take index bindings ++ b ∷ []) (sym at))
    ∙ environment_of-push (take index bindings) binding))
