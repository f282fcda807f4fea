-- A host variable isn't bound exactly where no earlier statement binds it.
use Rattle.std.proofs.Common.{◌≡◌, Bool, true, false, List, [], ◌∷◌, Option, Some, None, ◌⊎◌, inl, inr, refl, sym, ap}
use Rattle.std.proofs.Common.{◌∙◌}
use Rattle.std.specs.Prelude.{◌↔◌, unwrap_or, if◌then◌else◌}
use Rattle.std.specs.List.{Any}
use Rattle.ent_lists.proofs.Truth.{in_turn}
use Rattle.ent_value.specs.declared.value.Kind.{Kind}
use Rattle.ent_value.specs.declared.value.Kind.TheVariants.{Int}
use Rattle.ent_tree.specs.declared.entangled.EntangledItem.{EntangledItem}
use Rattle.ent_tree.specs.declared.entangled.Term.{Term}
use Rattle.ent_tree.specs.declared.operand.Identifier.{Identifier}
use Rattle.ent_tree.specs.declared.script.Statement.{Statement}
use Rattle.ent_tree.specs.declared.script.Statement.TheVariants as statements
use Rattle.ent_semantics.specs.Database.{Name, same_name}
use Rattle.ent_semantics.specs.Names.{equal_names, name_itself}
use Rattle.ent_form.specs.declared.catalogue.TableSchema.{TableSchema}
use Rattle.ent_form.specs.Kinds.{Bound, none_bound, with_kind}
use Rattle.ent_form.specs.AllFaults.{values, expression_kind}
use Rattle.ent_form.specs.EntangledFaults.{demanded_from, term_kind}
use Rattle.ent_form.specs.ScriptFaults.{item_binds, items_bind, bound_after, bound_by}
use Rattle.ent_form.specs.ScriptStanding.{IsBoundBy, Binds}
use Rattle.ent_form.proofs.ResolvedMembership.{any_nil, any_cons}

-- nothing before, and nothing here
abbrev Unbound : Bound → Name → Type 0 → Type 0
Unbound bound name P = (bound name ≡ None) × (¬ P)

with_to : (bound : Bound) (variable name : Name) (kind : Kind) (b : Bool) → same_name variable name ≡ b
    → (if b then Some kind else bound name) ≡ None → Unbound bound name (variable ≡ name)
with_to bound variable name kind true e h = cc
with_to bound variable name kind false e h = (
  h,
  λ is. let itself : same_name variable name ≡ true = ap (same_name variable) (sym is) ∙ name_itself variable in cc,
)

with_from : (bound : Bound) (variable name : Name) (kind : Kind) (b : Bool) → same_name variable name ≡ b
    → Unbound bound name (variable ≡ name) → (if b then Some kind else bound name) ≡ None
with_from bound variable name kind true e h = absurd (h.1 (equal_names variable name e))
with_from bound variable name kind false e h = h.0

unbound_with : (bound : Bound) (variable name : Name) (kind : Kind)
    → (with_kind bound variable kind name ≡ None) ↔ Unbound bound name (variable ≡ name)
unbound_with bound variable name kind = (
  with_to bound variable name kind (same_name variable name) refl,
  with_from bound variable name kind (same_name variable name) refl,
)

-- neither the first nor any later one
neither : {P Q : Type 0} → (¬ (P ⊎ Q)) ↔ ((¬ P) × (¬ Q))
neither {P} {Q} = (λ h. (λ p. h (inl p), λ q. h (inr q)), other)
  where
    other : (¬ P) × (¬ Q) → ¬ (P ⊎ Q)
    other h (inl p) = h.0 p
    other h (inr q) = h.1 q

moved : {A P Q : Type 0} → ((A × (¬ P)) × (¬ Q)) ↔ (A × ((¬ P) × (¬ Q)))
moved = (λ h. (h.0.0, (h.0.1, h.1)), λ h. ((h.0, h.1.0), h.1.1))

beside : {A B Q : Type 0} → A ↔ B → (A × Q) ↔ (B × Q)
beside f = (λ h. (f.0 h.0, h.1), λ h. (f.1 h.0, h.1))

under : {A P Q : Type 0} → P ↔ Q → (A × P) ↔ (A × Q)
under f = (λ h. (h.0, f.0 h.1), λ h. (h.0, f.1 h.1))

turned_all : {A : Type 0} (P : A → Type 0) (x : A) (xs : List A) → ((¬ P x) × (¬ Any P xs)) ↔ (¬ Any P (x ∷ xs))
turned_all P x xs = (
  λ h any. (neither.1 h) ((any_cons P x xs).0 any),
  λ h. neither.0 (λ one. h ((any_cons P x xs).1 one)),
)

item_unbound : (kind : Term → Option Kind) (bound : Bound) (binds : Option Identifier) (term : Term) (name : Name)
    → (item_binds kind bound binds term name ≡ None) ↔ Unbound bound name (IsBoundBy name binds)
item_unbound kind bound None term name = (λ h. (h, λ none. none), λ h. h.0)
item_unbound kind bound (Some variable) term name = unbound_with bound variable.name name (unwrap_or (kind term) Int)

items_unbound : (kind : Term → Option Kind) (items : List EntangledItem) (bound : Bound) (name : Name)
    → (items_bind kind bound items name ≡ None)
    ↔ Unbound bound name (Any (λ item. IsBoundBy name item.binds) items)
items_unbound kind [] bound name = (λ h. (h, λ any. any_nil (λ item. IsBoundBy name item.binds) any), λ h. h.0)
items_unbound kind (item ∷ more) bound name =
    in_turn (items_unbound kind more (item_binds kind bound item.binds item.term) name)
    (in_turn (beside (item_unbound kind bound item.binds item.term name))
    (in_turn moved (under (turned_all (λ item. IsBoundBy name item.binds) item more))))

module _ (tables : List TableSchema) where
  none_bound_here : {P : Type 0} → P ↔ (P × (¬ ⊥))
  none_bound_here = (λ h. (h, λ none. none), λ h. h.0)

  statement_unbound : (bound : Bound) (statement : Statement) (name : Name)
      → (bound_after tables bound statement name ≡ None) ↔ Unbound bound name (Binds name statement)
  statement_unbound bound (statements.Select select) name = none_bound_here
  statement_unbound bound (statements.Entangled entangled) name =
      items_unbound (term_kind (demanded_from tables bound none_bound entangled.conditions) bound) entangled.items bound
      name
  statement_unbound bound (statements.Insert insert) name = none_bound_here
  statement_unbound bound (statements.Delete delete) name = none_bound_here
  statement_unbound bound (statements.Update update) name = none_bound_here
  statement_unbound bound (statements.Set set) name =
      unbound_with bound set.variable.name name (unwrap_or (expression_kind (values bound) set.expression) Int)

  all_unbound : (before : List Statement) (bound : Bound) (name : Name)
      → (bound_by tables bound before name ≡ None) ↔ Unbound bound name (Any (Binds name) before)
  all_unbound [] bound name = (λ h. (h, λ any. any_nil (Binds name) any), λ h. h.0)
  all_unbound (statement ∷ more) bound name =
      in_turn (all_unbound more (bound_after tables bound statement) name)
      (in_turn (beside (statement_unbound bound statement name))
      (in_turn moved (under (turned_all (Binds name) statement more))))

  pub unset : (before : List Statement) (name : Name)
      → (bound_by tables none_bound before name ≡ None) ↔ (¬ Any (Binds name) before)
  unset before name = (
    λ h. ((all_unbound before none_bound name).0 h).1,
    λ h. (all_unbound before none_bound name).1 (refl, h),
  )
