-- What holds of the variables of all terms, at their numbers.
use Rattle.std.proofs.Common.{◌≡◌, ◌<◌, ℕ, zero, suc, Bool, false, List, [], ◌∷◌, length, ap, ◌∙◌, arith}
use Rattle.std.specs.Prelude.{if◌then◌else◌}
use Rattle.std.specs.List.{AllByRecursion, IsDistinct}
use Rattle.ent_tree.specs.declared.entangled.Entangled.{Entangled as TreeEntangled}
use Rattle.ent_semantics.specs.Database.{Name, same_name, index_of}
use Rattle.ent_semantics.specs.Names.{name_itself}
use Rattle.ent_form.specs.Entangled.{variables_of}
use Rattle.ent_form.proofs.Noted.{OfItems, OfConditions, variables_all, variables_once}

-- of those that differ from a name
both_each : (P Q : Name → Type 0) (names : List Name) → AllByRecursion P names → AllByRecursion Q names
    → AllByRecursion (λ name. P name × Q name) names
both_each P Q [] h k = tt
both_each P Q (name ∷ names) h k = ((h.0, k.0), both_each P Q names h.1 k.1)

good_at : (P : Name → Type 0) (names : List Name) (number : ℕ) → AllByRecursion P names → IsDistinct same_name names
    → number < length names → (name : Name) × (index_of names name ≡ number) × P name
unfolding IsDistinct
good_at P [] number h once low = absurd (omega (arith, low))
good_at P (first ∷ names) zero h once low =
    (first, ap (λ (b : Bool). if b then 0 else suc (index_of names first)) (name_itself first), h.0)
good_at P (first ∷ names) (suc number) h once low =
    let r = good_at (λ name. P name × (same_name first name ≡ false)) names number
    (both_each P (λ name. same_name first name ≡ false) names h.1 once.0) once.1 (omega (arith, low)) in
    (r.0, ap (λ (b : Bool). if b then 0 else suc (index_of names r.0)) r.2.1 ∙ ap suc r.1, r.2.0)

-- each number below that of the variables is a name's, of which it holds
pub variable_at : (P : Name → Type 0) (tree : TreeEntangled) → OfItems P tree.items → OfConditions P tree.conditions
    → (number : ℕ) → number < length (variables_of tree)
    → (name : Name) × (index_of (variables_of tree) name ≡ number) × P name
variable_at P tree of_items of_conditions number low =
    good_at P (variables_of tree) number (variables_all P tree of_items of_conditions) (variables_once tree) low
