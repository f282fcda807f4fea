-- What a statement leaves in host variables has the kinds that are known from the text.
use Rattle.std.proofs.Common.{◌≡◌, ℕ, suc, Bool, true, false, not, ◌||◌, List, [], ◌∷◌, ◌++◌, map, Option, Some}
use Rattle.std.proofs.Common.{None, Result, Ok, Err, refl, sym, ap, subst, ◌∙◌}
use Rattle.std.specs.Prelude.{nat_le, slice_index_or, slice_set, unwrap_or, IfOk, if◌then◌else◌, ◌==◌, length}
use Rattle.std.proofs.lemmas.List.{map-append}
use Rattle.std.proofs.lemmas.Result.{IfOk-at_ok}
use Rattle.ent_lists.specs.Sets as set
use Rattle.ent_value.specs.Value.{kind_of, kinds_of}
use Rattle.ent_value.specs.declared.limits.TheConstants.{MOST_ROWS}
use Rattle.ent_value.specs.declared.value.Kind.{Kind}
use Rattle.ent_value.specs.declared.value.Kind.TheVariants.{Int}
use Rattle.ent_value.specs.declared.value.Value.{Value}
use Rattle.ent_tree.specs.declared.entangled.Entangled.{Entangled as TreeEntangled}
use Rattle.ent_tree.specs.declared.entangled.EntangledItem.{EntangledItem}
use Rattle.ent_tree.specs.declared.entangled.Term.{Term as TreeTerm}
use Rattle.ent_tree.specs.declared.entangled.Term.TheVariants as terms
use Rattle.ent_tree.specs.declared.operand.Identifier.{Identifier}
use Rattle.ent_tree.specs.declared.script.Statement.{Statement as TreeStatement}
use Rattle.ent_tree.specs.declared.script.Statement.TheVariants as statements
use Rattle.ent_tree.specs.declared.statement.Delete.{Delete}
use Rattle.ent_tree.specs.declared.statement.Insert.{Insert}
use Rattle.ent_tree.specs.declared.statement.Set.{Set}
use Rattle.ent_tree.specs.declared.statement.Update.{Update}
use Rattle.ent_semantics.specs.Database.{Name, Rows, Environment, same_name, with_value, with_values, is_among}
use Rattle.ent_semantics.specs.Database.{index_of}
use Rattle.ent_semantics.specs.Form.{Tables, table_numbered, known_worth, operand_worth, term_worth, form_meaning}
use Rattle.ent_semantics.specs.declared.entangled.Binding.{Binding as Bind}
use Rattle.ent_semantics.specs.declared.entangled.Entangled.{Entangled}
use Rattle.ent_semantics.specs.declared.entangled.Term.{Term}
use Rattle.ent_semantics.specs.declared.entangled.Term.TheVariants as resolved
use Rattle.ent_semantics.specs.declared.operand.Known.{Known}
use Rattle.ent_semantics.specs.declared.statement.Statement.{Statement}
use Rattle.ent_semantics.specs.declared.statement.Statement.TheVariants as forms
use Rattle.ent_semantics.specs.declared.answer.Answer.TheVariants as answers
use Rattle.ent_semantics.specs.declared.answer.Failure.{Failure}
use Rattle.ent_semantics.specs.declared.answer.Failure.TheVariants.{TableFull}
use Rattle.ent_semantics.specs.Change.{matched, updated, all_there}
use Rattle.ent_semantics.specs.Effect.{Effect, changed}
use Rattle.ent_semantics.specs.Entangled.{Valuation}
use Rattle.ent_semantics.specs.Names.{equal_names}
use Rattle.ent_semantics.specs.Selection.{meets}
use Rattle.ent_semantics.specs.Term.{no_value, expression_value}
use Rattle.ent_form.specs.declared.catalogue.TableSchema.{TableSchema}
use Rattle.ent_form.specs.declared.fault.FormFault.TheVariants.{Arity, Unbound, Repeated}
use Rattle.ent_form.specs.Bindings.{bound_from}
use Rattle.ent_form.specs.Entangled.{noted_items, variables_of, memberships_from, term_in}
use Rattle.ent_form.specs.Entangled.{Offer, no_offer, with_term, with_bind, bind_in, item_in, offer_from, heads_from}
use Rattle.ent_form.specs.Entangled.{others_from, kinds_of as kinds_demanded, entangled_in}
use Rattle.ent_form.specs.Form.{statement_in}
use Rattle.ent_form.specs.Kinds.{Bound, none_bound, with_kind, with_kinds}
use Rattle.ent_form.specs.Lookup.{value_in, values_in, expression_in}
use Rattle.ent_form.specs.Ordinary.{tests_in, select_in, row_from, insert_in, delete_in, image_in, update_in, set_in}
use Rattle.ent_form.specs.Scope.{table_in, table_scope}
use Rattle.ent_form.specs.Steps.{there}
use Rattle.ent_form.proofs.Heads.{found_of, there_of}
use Rattle.ent_form.specs.TableKinds.{HasKinds, AnswersInKind}
use Rattle.ent_form.proofs.Kept.{over_overflow}
use Rattle.ent_form.proofs.Known.{value_kinded, expression_kinded}
use Rattle.ent_form.proofs.Noted.{OfVariable, OfItems, conditions_keep, items_weaker, items_noted}
use Rattle.ent_form.proofs.ResolvedSteps.{one_answer, demand_given}

-- ---- one host variable more

pub one_more : (bound : Bound) (environment : Environment) (name : Name) (kind : Kind) (value : Value)
    → HasKinds bound environment → kind_of value ≡ kind
    → HasKinds (with_kind bound name kind) (with_value environment name value)
one_more bound environment name kind value have is other wanted e =
    elim (same_name name other) as (λ b. (if b then Some kind else bound other) ≡ Some wanted
    → (found : Value) × ((if b then Some value else environment other) ≡ Some found) × (kind_of found ≡ wanted)) [
      | true ↦ λ here. (value, refl, is ∙ one_kind kind wanted here)
      | false ↦ λ before. have other wanted before
    ] e
  where
    one_kind : (x y : Kind) → Some x ≡ Some y → x ≡ y
    one_kind x y e = cc

-- ---- terms under values of the variables' kinds

one_kind : (x y : Kind) → Some x ≡ Some y → x ≡ y
one_kind x y e = cc

variable_kind : (demanded : Bound) (names : List Name) (valuation : Valuation) (name : Name) (kind : Kind)
    → kinds_of valuation ≡ kinds_demanded demanded names → is_among names name ≡ true → demanded name ≡ Some kind
    → kind_of (slice_index_or valuation (index_of names name) no_value) ≡ kind
variable_kind demanded [] valuation name kind e among is = cc
variable_kind demanded (first ∷ names) [] name kind e among is = cc
variable_kind demanded (first ∷ names) (value ∷ valuation) name kind e among is =
    let both = parts (kind_of value) (unwrap_or (demanded first) Int) (kinds_of valuation)
    (kinds_demanded demanded names) e in
    let rest = variable_kind demanded names valuation name kind both.1 in
    elim (same_name first name) as (λ b. same_name first name ≡ b → (b || is_among names name) ≡ true
    → kind_of (slice_index_or (value ∷ valuation) (if b then 0 else suc (index_of names name)) no_value) ≡ kind) [
      | true ↦ λ same _. both.0 ∙ ap (λ (name : Name). unwrap_or (demanded name) Int) (equal_names first name same)
          ∙ ap (λ (there : Option Kind). unwrap_or there Int) is
      | false ↦ λ _ later. rest later is
    ] refl among
  where
    parts : (x y : Kind) (xs ys : List Kind) → x ∷ xs ≡ y ∷ ys → (x ≡ y) × (xs ≡ ys)
    parts x y xs ys e = (cc, cc)

-- names that are bound, and their kinds, beside what they are bound to
abbrev Alike : (Term Known → Value) → List (Bind Known) → List (Name × Kind) → Type 0
Alike worth [] [] = Unit {0}
Alike worth [] (binding ∷ bindings) = ⊥
Alike worth (bind ∷ binds) [] = ⊥
Alike worth (bind ∷ binds) (binding ∷ bindings) =
    (bind.variable ≡ binding.0) × (kind_of (worth bind.term) ≡ binding.1) × Alike worth binds bindings

alike_behind : (worth : Term Known → Value) (binds : List (Bind Known)) (bindings : List (Name × Kind))
    → (bind : Bind Known) (binding : Name × Kind) → Alike worth binds bindings → bind.variable ≡ binding.0
    → kind_of (worth bind.term) ≡ binding.1 → Alike worth (binds ++ bind ∷ []) (bindings ++ binding ∷ [])
alike_behind worth [] [] bind binding h name kind = (name, kind, tt)
alike_behind worth [] (other ∷ bindings) bind binding h name kind = absurd h
alike_behind worth (first ∷ binds) [] bind binding h name kind = absurd h
alike_behind worth (first ∷ binds) (other ∷ bindings) bind binding h name kind = (
  h.0,
  h.1,
  alike_behind worth binds bindings bind binding h.2 name kind,
)

-- each item that binds leaves a value of its kind
binds_kept : (worth : Term Known → Value) (binds : List (Bind Known)) (bindings : List (Name × Kind)) (bound : Bound)
    → (environment : Environment) → Alike worth binds bindings → HasKinds bound environment
    → HasKinds (with_kinds bound bindings)
    (with_values environment (map (λ bind. (bind.variable, worth bind.term)) binds))
binds_kept worth [] [] bound environment h have = have
binds_kept worth [] (binding ∷ bindings) bound environment h have = absurd h
binds_kept worth (bind ∷ binds) [] bound environment h have = absurd h
binds_kept worth (bind ∷ binds) (binding ∷ bindings) bound environment h have =
    binds_kept worth binds bindings (with_kind bound binding.0 binding.1)
    (with_value environment bind.variable (worth bind.term)) h.2
    (subst (λ name. HasKinds (with_kind bound binding.0 binding.1)
    (with_value environment name (worth bind.term))) (sym h.0)
    (one_more bound environment binding.0 binding.1 (worth bind.term) have h.1))

-- the names that a select list binds, and their kinds
abbrev bound_kinds : Offer → List (Name × Kind)
bound_kinds offer = map (λ binding. (binding.name, binding.kind)) offer.bound

bound_alike : (bindings : List _) (bound : Bound)
    → bound_from bound bindings ≡ with_kinds bound (map (λ binding. (binding.name, binding.kind)) bindings)
bound_alike [] bound = refl
bound_alike (binding ∷ bindings) bound = bound_alike bindings (with_kind bound binding.name binding.kind)

module _ (bound : Bound) (environment : Environment) (have : HasKinds bound environment)
    (demanded : Bound) (names : List Name) (valuation : Valuation)
    (answers : kinds_of valuation ≡ kinds_demanded demanded names) where
  abbrev worth : Term Known → Value
  worth = term_worth (known_worth environment) valuation

  abbrev IsAmong : Name → Type 0
  IsAmong name = is_among names name ≡ true

  term_kinded : (term : TreeTerm) (found : Term Known × Kind) → OfVariable IsAmong term
      → term_in names demanded bound term ≡ Ok found → kind_of (worth found.0) ≡ found.1
  term_kinded (terms.Value value) found among e =
      let w = found_of (value_in bound value) _ found e in
      subst (λ (f : Term Known × Kind). kind_of (worth f.0) ≡ f.1)
      (one_answer (resolved.Known w.0.0, w.0.1) found w.2) (value_kinded bound environment have value w.0 w.1)
  term_kinded (terms.Variable variable) found among e =
      let w = found_of (there (demanded variable.name) (Unbound variable.place)) _ found e in
      subst (λ (f : Term Known × Kind). kind_of (worth f.0) ≡ f.1)
      (one_answer (resolved.Variable (index_of names variable.name), w.0) found w.2)
      (variable_kind demanded names valuation variable.name w.0 answers among
      (there_of (demanded variable.name) (Unbound variable.place) w.0 w.1))

  abbrev OfferAlike : Offer → Type 0
  OfferAlike offer = Alike worth offer.binds (bound_kinds offer)

  bind_alike : (offer out : Offer) (binds : Option Identifier) (found : Term Known × Kind) → OfferAlike offer
      → kind_of (worth found.0) ≡ found.1 → bind_in offer binds found ≡ Ok out → OfferAlike out
  bind_alike offer out None found h is e = subst OfferAlike (one_answer (with_term offer found.0) out e) h
  bind_alike offer out (Some variable) found h is e =
      let kept = demand_given (not (is_among (map (λ binding. binding.name) offer.bound) variable.name))
      (Repeated variable.place) (Ok (with_bind offer variable.name found)) out e in
      let bind : Bind Known = record { variable = variable.name; term = found.0 } in
      subst OfferAlike (one_answer (with_bind offer variable.name found) out kept.1)
      (subst (Alike worth (offer.binds ++ bind ∷ []))
      (sym (map-append (λ binding. (binding.name, binding.kind)) offer.bound _))
      (alike_behind worth offer.binds (bound_kinds offer) bind (variable.name, found.1) h refl is))

  offer_alike : (items : List EntangledItem) (offer out : Offer) → OfItems IsAmong items → OfferAlike offer
      → offer_from names demanded bound offer items ≡ Ok out → OfferAlike out
  unfolding item_in
  offer_alike [] offer out among h e = subst OfferAlike (one_answer offer out e) h
  offer_alike (item ∷ more) offer out among h e =
      let w = found_of (item_in names demanded bound offer item) _ out e in
      let t = found_of (term_in names demanded bound item.term) _ w.0 w.1 in
      offer_alike more w.0 out among.1
      (bind_alike offer w.0 item.binds t.0 h (term_kinded item.term t.0 among.0 t.1) t.2) w.2

-- ---- statements

module _ (schemas : List TableSchema) (bound : Bound) (tables : Tables) (environment : Environment)
    (have : HasKinds bound environment) where
  abbrev Stays : Effect Tables → Type 0
  Stays effect = HasKinds bound effect.environment

  changed_stays : (number count : ℕ) (rows : Rows)
      → IfOk (changed (table_numbered number) count rows tables environment) Stays
  changed_stays number count rows =
      elim (nat_le (set.len rows) MOST_ROWS) as (λ b. IfOk (pick b) Stays) [
        | true ↦ have
        | false ↦ tt
      ]
    where
      pick : Bool → Result (Effect Tables) Failure
      pick b =
          let left = slice_set tables number rows in
          if b
          then Ok (record { database = left; environment = environment; answer = answers.Count count })
          else Err TableFull

  -- a form that binds nothing
  abbrev BindsNothing : Statement Known → Type 0
  BindsNothing (forms.Select select) = Unit {0}
  BindsNothing (forms.Entangled entangled) = ⊥
  BindsNothing (forms.Insert table values) = Unit {0}
  BindsNothing (forms.Delete table tests) = Unit {0}
  BindsNothing (forms.Update table image tests) = Unit {0}
  BindsNothing (forms.Set variable expression) = ⊥

  stays : (form : Statement Known) (valuation : Valuation) → BindsNothing form
      → IfOk (form_meaning known_worth form valuation tables environment) Stays
  stays (forms.Select select) valuation h = have
  stays (forms.Entangled entangled) valuation h = absurd h
  stays (forms.Insert table values) valuation h =
      let rows = slice_index_or tables table set.empty in
      let row = map (known_worth environment) values in
      changed_stays table (if set.contains rows row then 0 else 1) (set.insert rows row)
  stays (forms.Delete table tests) valuation h = have
  stays (forms.Update table image tests) valuation h =
      let rows = slice_index_or tables table set.empty in
      let value = operand_worth (known_worth environment) in
      let matches = meets value tests in
      over_overflow (updated matches (λ row. all_there (map (expression_value (value row)) image)) rows)
      (changed (table_numbered table) (set.len (matched matches rows))) tables environment Stays
      (λ after _. changed_stays table (set.len (matched matches rows)) after)
  stays (forms.Set variable expression) valuation h = absurd h

  -- a form that binds nothing leaves what is bound
  unbound_kept : (form : Statement Known) (valuation : Valuation) (effect : Effect Tables) → BindsNothing form
      → form_meaning known_worth form valuation tables environment ≡ Ok effect → HasKinds bound effect.environment
  unbound_kept form valuation effect h e = IfOk-at_ok Stays e (stays form valuation h)

  -- what is known of a form and of what is bound after it
  abbrev Leaves : Valuation → Effect Tables → Statement Known × Bound → Type 0
  Leaves valuation effect found =
      AnswersInKind found.0 valuation
      → form_meaning known_worth found.0 valuation tables environment ≡ Ok effect
      → HasKinds found.1 effect.environment

  insert_binds : (insert : Insert) (form : Statement Known) → insert_in schemas bound insert ≡ Ok form
      → BindsNothing form
  unfolding insert_in
  insert_binds insert form e =
      let table = found_of (table_in schemas insert.table) _ form e in
      let kept = demand_given (length insert.values == length table.0.1.columns) (Arity insert.place) _ form table.2 in
      let row = found_of (row_from bound [] table.0.1.columns insert.values) _ form kept.1 in
      subst BindsNothing (one_answer (forms.Insert table.0.0 row.0) form row.2) tt

  delete_binds : (delete : Delete) (form : Statement Known) → delete_in schemas bound delete ≡ Ok form
      → BindsNothing form
  unfolding delete_in
  delete_binds delete form e =
      let table = found_of (table_in schemas delete.table) _ form e in
      let tests = found_of (tests_in (table_scope delete.table.name table.0) bound delete.tests) _ form table.2 in
      subst BindsNothing (one_answer (forms.Delete table.0.0 tests.0) form tests.2) tt

  update_binds : (update : Update) (form : Statement Known) → update_in schemas bound update ≡ Ok form
      → BindsNothing form
  unfolding update_in
  update_binds update form e =
      let table = found_of (table_in schemas update.table) _ form e in
      let scope = table_scope update.table.name table.0 in
      let tests = found_of (tests_in scope bound update.tests) _ form table.2 in
      let image = found_of (image_in scope bound table.0.1.columns update.assignments) _ form tests.2 in
      subst BindsNothing (one_answer (forms.Update table.0.0 image.0 tests.0) form image.2) tt

  set_leaves : (set : Set) (found : Statement Known × Bound) (valuation : Valuation) (effect : Effect Tables)
      → set_in bound set ≡ Ok found → Leaves valuation effect found
  unfolding set_in
  set_leaves set found valuation effect e =
      let w = found_of (expression_in (values_in bound) set.expression) _ found e in
      subst (Leaves valuation effect)
      (one_answer (forms.Set set.variable.name w.0.0, with_kind bound set.variable.name w.0.1) found w.2)
      (λ _ is. IfOk-at_ok (λ effect. HasKinds (with_kind bound set.variable.name w.0.1) effect.environment) is
      (over_overflow (expression_value (known_worth environment) w.0.0) (λ value database environment. Ok (record {
        database = database;
        environment = with_value environment set.variable.name value;
        answer = answers.Value value;
      })) tables environment (λ effect. HasKinds (with_kind bound set.variable.name w.0.1) effect.environment)
      (λ value there. one_more bound environment set.variable.name w.0.1 value have
      (expression_kinded (values_in bound) (known_worth environment) (value_kinded bound environment have)
      set.expression w.0 w.1 value there))))

  entangled_leaves : (entangled : TreeEntangled) (found : Entangled Known × Bound) (valuation : Valuation)
      → (effect : Effect Tables) → entangled_in schemas bound entangled ≡ Ok found
      → Leaves valuation effect (forms.Entangled found.0, found.1)
  unfolding entangled_in
  entangled_leaves entangled found valuation effect e =
      let names = variables_of entangled in
      let body = found_of (memberships_from schemas bound names [] none_bound entangled.conditions) _ found e in
      let offer = found_of (offer_from names body.0.1 bound no_offer entangled.items) _ found body.2 in
      let heads = found_of (heads_from offer.0.terms [] [] entangled.relations) _ found offer.2 in
      let others = found_of (others_from names body.0.1 bound [] [] entangled.conditions) _ found heads.2 in
      subst (λ (f : Entangled Known × Bound). Leaves valuation effect (forms.Entangled f.0, f.1))
      (one_answer _ found others.2)
      (λ answers is.
      let among = items_weaker (λ name. is_among (noted_items [] entangled.items) name ≡ true)
      (λ name. is_among names name ≡ true)
      (λ name h. conditions_keep entangled.conditions (noted_items [] entangled.items) name h) entangled.items
      (items_noted entangled.items []) in
      IfOk-at_ok (λ effect. HasKinds (bound_from bound offer.0.bound) effect.environment) is
      (subst (λ (after : Bound). HasKinds after (with_values environment (map (λ bind. (
        bind.variable,
        term_worth (known_worth environment) valuation bind.term,
      )) offer.0.binds)))
      (sym (bound_alike offer.0.bound bound))
      (binds_kept (term_worth (known_worth environment) valuation) offer.0.binds (bound_kinds offer.0) bound environment
      (offer_alike bound environment have body.0.1 names valuation answers entangled.items no_offer offer.0 among tt
      offer.1) have)))

  pub statement_leaves : (statement : TreeStatement) (form : Statement Known) (after : Bound) (valuation : Valuation)
      → (effect : Effect Tables) → statement_in schemas bound statement ≡ Ok (form, after)
      → Leaves valuation effect (form, after)
  unfolding statement_in
  statement_leaves (statements.Select select) form after valuation effect e =
      let w = found_of (select_in schemas bound select) _ (form, after) e in
      subst (Leaves valuation effect) (one_answer (forms.Select w.0.0, bound) (form, after) w.2)
      (λ _ is. unbound_kept (forms.Select w.0.0) valuation effect tt is)
  statement_leaves (statements.Entangled entangled) form after valuation effect e =
      let w = found_of (entangled_in schemas bound entangled) _ (form, after) e in
      subst (Leaves valuation effect) (one_answer (forms.Entangled w.0.0, w.0.1) (form, after) w.2)
      (entangled_leaves entangled w.0 valuation effect w.1)
  statement_leaves (statements.Insert insert) form after valuation effect e =
      let w = found_of (insert_in schemas bound insert) _ (form, after) e in
      subst (Leaves valuation effect) (one_answer (w.0, bound) (form, after) w.2)
      (λ _ is. unbound_kept w.0 valuation effect (insert_binds insert w.0 w.1) is)
  statement_leaves (statements.Delete delete) form after valuation effect e =
      let w = found_of (delete_in schemas bound delete) _ (form, after) e in
      subst (Leaves valuation effect) (one_answer (w.0, bound) (form, after) w.2)
      (λ _ is. unbound_kept w.0 valuation effect (delete_binds delete w.0 w.1) is)
  statement_leaves (statements.Update update) form after valuation effect e =
      let w = found_of (update_in schemas bound update) _ (form, after) e in
      subst (Leaves valuation effect) (one_answer (w.0, bound) (form, after) w.2)
      (λ _ is. unbound_kept w.0 valuation effect (update_binds update w.0 w.1) is)
  statement_leaves (statements.Set set) form after valuation effect e =
      set_leaves set (form, after) valuation effect e
