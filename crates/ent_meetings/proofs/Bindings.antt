-- One binding more.
use Rattle.std.proofs.Common.{◌≡◌, ℕ, ◌+◌, ◌<◌, List, [], ◌∷◌, ◌++◌, length, take, get_or, cond, Option}
use Rattle.std.proofs.Common.{refl, sym, ap, ◌∙◌}
use Rattle.std.proofs.lemmas.List.{take_more}
use Rattle.std.specs.Option.{option_copied}
use Rattle.ent_value.specs.declared.value.Value.{Value}
use Rattle.ent_semantics.specs.Database.{Name, Environment, same_name, nothing_bound}
use Rattle.ent_meetings.specs.Bindings.{with_binding, with_bindings}
use Rattle.ent_meetings.specs.declared.known.ValueBinding.{ValueBinding}

pub with_bindings-push : (known : Environment) (bindings : List ValueBinding) (binding : ValueBinding)
    → with_bindings known (bindings ++ binding ∷ []) ≡ with_binding (with_bindings known bindings) binding
with_bindings-push known [] binding = refl
with_bindings-push known (first ∷ bindings) binding = with_bindings-push (with_binding known first) bindings binding

-- what the bindings say of a host variable once one more was looked at
pub said_more : (bindings : List ValueBinding) (index : ℕ) (binding : ValueBinding) (variable : Name)
    (found next : Option Value) → index < length bindings → binding ≡ get_or bindings index binding
    → found ≡ with_bindings nothing_bound (take index bindings) variable
    → next ≡ cond (same_name binding.variable.now variable) (option_copied binding.value) found
    → next ≡ with_bindings nothing_bound (take (index + 1) bindings) variable
said_more bindings index binding variable found next low at before is =
    is
    ∙ ap (cond (same_name binding.variable.now variable) (option_copied binding.value)) before
    ∙ sym (ap (λ (environment : Environment). environment variable)
    (ap (with_bindings nothing_bound) (take_more bindings index binding low
    ∙ ap (λ b. take index bindings ++ b ∷ []) (sym at))
    ∙ with_bindings-push nothing_bound (take index bindings) binding))
