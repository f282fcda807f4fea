-- Steps of loops that look for the first fault, and of bindings.
use Rattle.std.specs.Prelude.{if◌then◌else◌}
use Rattle.std.proofs.Common.{◌≡◌, ℕ, ◌+◌, ◌<◌, List, [], ◌∷◌, ◌++◌, length, take, get_or, Option, Some, None, ◌⊎◌, inl}
use Rattle.std.proofs.Common.{inr, refl, sym, ap, ◌∙◌}
use Rattle.std.proofs.lemmas.List.{take_more}
use Rattle.ent_value.specs.declared.value.Kind.{Kind}
use Rattle.ent_tree.specs.declared.operand.Literal.{Literal}
use Rattle.ent_semantics.specs.Database.{Name, same_name}
use Rattle.ent_form.specs.declared.binding.KindBinding.{KindBinding}
use Rattle.ent_form.specs.declared.catalogue.ColumnSchema.{ColumnSchema}
use Rattle.ent_form.specs.OpeningFault.{Check, literals_fault}
use Rattle.ent_form.specs.Bindings.{bound_from}
use Rattle.ent_form.specs.Kinds.{Bound, none_bound, with_kind}

-- where columns or literals end there is no fault
pub literals_end : (columns : List ColumnSchema) (literals : List Literal) (total : Check)
    → (columns ≡ []) ⊎ (literals ≡ []) → literals_fault columns literals ≡ total → None ≡ total
literals_end [] literals total h e = e
literals_end (column ∷ columns) [] total h e = e
literals_end (column ∷ columns) (literal ∷ literals) total (inl h) e = cc
literals_end (column ∷ columns) (literal ∷ literals) total (inr h) e = cc

pub bound_push : (bound : Bound) (bindings : List KindBinding) (last : KindBinding)
    → bound_from bound (bindings ++ last ∷ []) ≡ with_kind (bound_from bound bindings) last.name last.kind
bound_push bound [] last = refl
bound_push bound (binding ∷ bindings) last = bound_push (with_kind bound binding.name binding.kind) bindings last

-- what the bindings so far say, and one more
pub bound_more : (bindings : List KindBinding) (name : Name) (found : Option Kind) (i : ℕ) (binding : KindBinding)
    → i < length bindings → binding ≡ get_or bindings i binding → found ≡ bound_from none_bound (take i bindings) name
    → (if same_name binding.name name then Some binding.kind else found)
    ≡ bound_from none_bound (take (i + 1) bindings) name
bound_more bindings name found i binding h is so =
    let next : take (i + 1) bindings ≡ take i bindings ++ binding ∷ [] = take_more bindings i binding h
    ∙ ap (λ (b : KindBinding). take i bindings ++ b ∷ []) (sym is) in
    ap (λ (k : Option Kind). if same_name binding.name name then Some binding.kind else k) so
    ∙ ap (λ (b : Bound). b name) (sym (bound_push none_bound (take i bindings) binding))
    ∙ ap (λ bs. bound_from none_bound bs name) (sym next)

-- what was found, as a list of at most one
abbrev pub found_list : {A : Type 0} → Option A → List A
found_list None = []
found_list (Some x) = x ∷ []
