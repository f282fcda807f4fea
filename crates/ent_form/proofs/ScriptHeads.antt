-- The fault of a script that is answered is the first of all.
use Rattle.std.proofs.Common.{◌≡◌, not, List, [], ◌∷◌, ◌++◌, map, Option, Some, None, Ok, refl, sym, ap, ◌∙◌}
use Rattle.std.specs.Prelude.{unwrap_or}
use Rattle.ent_value.specs.declared.value.Kind.{Kind}
use Rattle.ent_value.specs.declared.value.Kind.TheVariants.{Int}
use Rattle.ent_tree.specs.declared.entangled.Entangled.{Entangled as TreeEntangled}
use Rattle.ent_tree.specs.declared.entangled.EntangledItem.{EntangledItem}
use Rattle.ent_tree.specs.declared.entangled.Term.{Term as TreeTerm}
use Rattle.ent_tree.specs.declared.operand.Identifier.{Identifier}
use Rattle.ent_tree.specs.declared.script.Script.{Script}
use Rattle.ent_tree.specs.declared.script.Statement.{Statement as TreeStatement}
use Rattle.ent_tree.specs.declared.script.Statement.TheVariants as statements
use Rattle.ent_tree.specs.declared.statement.Set.{Set}
use Rattle.ent_semantics.specs.Database.{Name, is_among}
use Rattle.ent_semantics.specs.declared.entangled.Entangled.{Entangled}
use Rattle.ent_semantics.specs.declared.entangled.Term.{Term}
use Rattle.ent_semantics.specs.declared.operand.Known.{Known}
use Rattle.ent_semantics.specs.declared.statement.Statement.{Statement}
use Rattle.ent_semantics.specs.declared.statement.Statement.TheVariants as forms
use Rattle.ent_form.specs.declared.catalogue.TableSchema.{TableSchema}
use Rattle.ent_form.specs.declared.fault.FormFault.TheVariants.{Repeated}
use Rattle.ent_form.specs.Bindings.{bound_from}
use Rattle.ent_form.specs.Entangled.{variables_of, memberships_from, term_in, Offer, no_offer, with_term, with_bind}
use Rattle.ent_form.specs.Entangled.{bind_in}
use Rattle.ent_form.specs.Entangled.{item_in, offer_from, heads_from, others_from, entangled_in}
use Rattle.ent_form.specs.Form.{statement_in, statements_from, script_in}
use Rattle.ent_form.specs.Kinds.{Bound, none_bound, with_kind}
use Rattle.ent_form.specs.Lookup.{values_in, expression_in}
use Rattle.ent_form.specs.Ordinary.{select_in, insert_in, delete_in, update_in, set_in}
use Rattle.ent_form.specs.AllFaults.{fault_of, head_of, values}
use Rattle.ent_form.specs.EntangledFaults.{body_variables, term_kind}
use Rattle.ent_form.specs.ScriptFaults.{set_binds, item_binds, items_bind, entangled_binds, bound_after}
use Rattle.ent_form.specs.ScriptFaults.{statement_faults}
use Rattle.ent_form.specs.ScriptFaults.{statements_faults, script_faults}
use Rattle.ent_form.proofs.EntangledHeads.{memberships_known, memberships_there, term_known, entangled_head}
use Rattle.ent_form.proofs.Heads.{one_answer, found_of, demand_of, values_agree, expression_known, select_head}
use Rattle.ent_form.proofs.Heads.{insert_head}
use Rattle.ent_form.proofs.Heads.{delete_head, update_head, set_head}
use Rattle.ent_form.proofs.FaultSteps.{head_then, head_last}

-- ---- what a statement binds

set_bound : (bound : Bound) (set : Set) (found : Statement Known × Bound) → set_in bound set ≡ Ok found
    → found.1 ≡ set_binds bound set
unfolding set_in
set_bound bound set found e =
    let w = found_of (expression_in (values_in bound) set.expression) _ found e in
    sym (ap (λ (f : Statement Known × Bound). f.1) (one_answer _ found w.2))
    ∙ ap (λ (kind : Option Kind). with_kind bound set.variable.name (unwrap_or kind Int))
    (sym (expression_known (values_in bound) (values bound) (values_agree bound) set.expression w.0 w.1))

bound_behind : (bound : Bound) (bindings more : List _)
    → bound_from bound (bindings ++ more) ≡ bound_from (bound_from bound bindings) more
bound_behind bound [] more = refl
bound_behind bound (binding ∷ bindings) more = bound_behind (with_kind bound binding.name binding.kind) bindings more

module _ (names : List Name) (demanded bound : Bound) (body : List Name)
    (known : (term : TreeTerm) (found : Term Known × Kind) → term_in names demanded bound term ≡ Ok found
    → term_kind demanded bound term ≡ Some found.1) where
  abbrev left_by : Offer → Bound
  left_by offer = bound_from bound offer.bound

  bind_bound : (offer out : Offer) (binds : Option Identifier) (term : TreeTerm) (found : Term Known × Kind)
      → term_in names demanded bound term ≡ Ok found → bind_in offer binds found ≡ Ok out
      → left_by out ≡ item_binds (term_kind demanded bound) (left_by offer) binds term
  bind_bound offer out None term found is e = ap left_by (sym (one_answer (with_term offer found.0) out e))
  bind_bound offer out (Some variable) term found is e =
      let kept = demand_of (not (is_among (map (λ binding. binding.name) offer.bound) variable.name))
      (Repeated variable.place) _ out e in
      ap left_by (sym (one_answer (with_bind offer variable.name found) out kept))
      ∙ bound_behind bound offer.bound _
      ∙ ap (λ (kind : Option Kind). with_kind (left_by offer) variable.name (unwrap_or kind Int))
      (sym (known term found is))

  offer_bound : (all : List EntangledItem) (offer out : Offer) → offer_from names demanded bound offer all ≡ Ok out
      → left_by out ≡ items_bind (term_kind demanded bound) (left_by offer) all
  unfolding item_in
  offer_bound [] offer out e = ap left_by (sym (one_answer offer out e))
  offer_bound (item ∷ more) offer out e =
      let w = found_of (item_in names demanded bound offer item) _ out e in
      let t = found_of (term_in names demanded bound item.term) _ w.0 w.1 in
      offer_bound more w.0 out w.2
      ∙ ap (λ (next : Bound). items_bind (term_kind demanded bound) next more)
      (bind_bound offer w.0 item.binds item.term t.0 t.1 t.2)

entangled_bound : (tables : List TableSchema) (bound : Bound) (entangled : TreeEntangled)
    → (found : Entangled Known × Bound) → entangled_in tables bound entangled ≡ Ok found
    → found.1 ≡ entangled_binds tables bound entangled
unfolding entangled_in
entangled_bound tables bound entangled found e =
    let names = variables_of entangled in
    let body = body_variables entangled.conditions in
    let inner = found_of (memberships_from tables bound names [] none_bound entangled.conditions) _ found e in
    let offer = found_of (offer_from names inner.0.1 bound no_offer entangled.items) _ found inner.2 in
    let heads = found_of (heads_from offer.0.terms [] [] entangled.relations) _ found offer.2 in
    let others = found_of (others_from names inner.0.1 bound [] [] entangled.conditions) _ found heads.2 in
    let agree = memberships_there tables bound names entangled.conditions [] none_bound inner.0 inner.1 in
    sym (ap (λ (f : Entangled Known × Bound). f.1) (one_answer _ found others.2))
    ∙ offer_bound names inner.0.1 bound body (term_known names inner.0.1 bound body agree) entangled.items no_offer
    offer.0 offer.1
    ∙ ap (λ (demanded : Bound). items_bind (term_kind demanded bound) bound entangled.items)
    (memberships_known tables bound names entangled.conditions [] none_bound inner.0 inner.1)

module _ (tables : List TableSchema) where
  statement_bound : (bound : Bound) (statement : TreeStatement) (found : Statement Known × Bound)
      → statement_in tables bound statement ≡ Ok found → found.1 ≡ bound_after tables bound statement
  unfolding statement_in
  statement_bound bound (statements.Select select) found e =
      let w = found_of (select_in tables bound select) _ found e in
      sym (ap (λ (f : Statement Known × Bound). f.1) (one_answer (forms.Select w.0.0, bound) found w.2))
  statement_bound bound (statements.Entangled entangled) found e =
      let w = found_of (entangled_in tables bound entangled) _ found e in
      sym (ap (λ (f : Statement Known × Bound). f.1) (one_answer (forms.Entangled w.0.0, w.0.1) found w.2))
      ∙ entangled_bound tables bound entangled w.0 w.1
  statement_bound bound (statements.Insert insert) found e =
      let w = found_of (insert_in tables bound insert) _ found e in
      sym (ap (λ (f : Statement Known × Bound). f.1) (one_answer (w.0, bound) found w.2))
  statement_bound bound (statements.Delete delete) found e =
      let w = found_of (delete_in tables bound delete) _ found e in
      sym (ap (λ (f : Statement Known × Bound). f.1) (one_answer (w.0, bound) found w.2))
  statement_bound bound (statements.Update update) found e =
      let w = found_of (update_in tables bound update) _ found e in
      sym (ap (λ (f : Statement Known × Bound). f.1) (one_answer (w.0, bound) found w.2))
  statement_bound bound (statements.Set set) found e = set_bound bound set found e

  pub statement_head : (bound : Bound) (statement : TreeStatement)
      → fault_of (statement_in tables bound statement) ≡ head_of (statement_faults tables bound statement)
  unfolding statement_in
  statement_head bound (statements.Select select) =
      head_last (select_in tables bound select) _ _ (select_head tables bound select)
  statement_head bound (statements.Entangled entangled) =
      head_last (entangled_in tables bound entangled) _ _ (entangled_head tables bound entangled)
  statement_head bound (statements.Insert insert) =
      head_last (insert_in tables bound insert) _ _ (insert_head tables bound insert)
  statement_head bound (statements.Delete delete) =
      head_last (delete_in tables bound delete) _ _ (delete_head tables bound delete)
  statement_head bound (statements.Update update) =
      head_last (update_in tables bound update) _ _ (update_head tables bound update)
  statement_head bound (statements.Set set) = set_head bound set

  statements_head : (all : List TreeStatement) (bound : Bound) (made : List (Statement Known))
      → fault_of (statements_from tables bound made all) ≡ head_of (statements_faults tables bound all)
  statements_head [] bound made = refl
  statements_head (statement ∷ more) bound made =
      head_then (statement_in tables bound statement) _ (statement_faults tables bound statement) _
      (statement_head bound statement) (λ found is.
      statements_head more found.1 (made ++ found.0 ∷ [])
      ∙ ap (λ (next : Bound). head_of (statements_faults tables next more)) (statement_bound bound statement found is))

  pub script_head : (script : Script) → fault_of (script_in tables script) ≡ head_of (script_faults tables script)
  script_head script =
      head_last (statements_from tables none_bound [] script.statements) _ _
      (statements_head script.statements none_bound [])
