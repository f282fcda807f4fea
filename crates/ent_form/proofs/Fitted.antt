-- A resolved statement names tables that are declared, and fits them.
use Rattle.std.proofs.Common.{◌≡◌, ℕ, ◌<◌, false, List, [], ◌∷◌, ◌++◌, map, length, Ok, refl, sym, ap, subst}
use Rattle.std.proofs.Common.{◌∙◌}
use Rattle.std.specs.Prelude.{◌==◌}
use Rattle.std.specs.List.{AllByRecursion, flat_map}
use Rattle.std.proofs.lemmas.Bool.{eqb-true}
use Rattle.std.proofs.lemmas.Grind.{flat_map-append}
use Rattle.std.proofs.lemmas.List.{append-nil, length-map}
use Rattle.std.proofs.lemmas.Simd.{map-map}
use Rattle.ent_value.specs.Value.{kind_of, kinds_of}
use Rattle.ent_value.specs.declared.value.Kind.{Kind}
use Rattle.ent_value.specs.declared.value.Value.{Value}
use Rattle.ent_tree.specs.declared.entangled.Condition.{Condition}
use Rattle.ent_tree.specs.declared.entangled.Condition.TheVariants as conditions
use Rattle.ent_tree.specs.declared.entangled.Entangled.{Entangled as TreeEntangled}
use Rattle.ent_tree.specs.declared.entangled.Tuple.{Tuple}
use Rattle.ent_tree.specs.declared.script.Statement.{Statement as TreeStatement}
use Rattle.ent_tree.specs.declared.script.Statement.TheVariants as statements
use Rattle.ent_tree.specs.declared.select.Select.{Select as TreeSelect}
use Rattle.ent_tree.specs.declared.statement.Delete.{Delete}
use Rattle.ent_tree.specs.declared.statement.Insert.{Insert}
use Rattle.ent_tree.specs.declared.statement.Set.{Set}
use Rattle.ent_tree.specs.declared.statement.Update.{Update}
use Rattle.ent_semantics.specs.Closing.{closed, expression_over, operand_over, membership_over}
use Rattle.ent_semantics.specs.Form.{known_worth}
use Rattle.ent_semantics.specs.declared.entangled.Entangled.{Entangled}
use Rattle.ent_semantics.specs.declared.entangled.Membership.{Membership}
use Rattle.ent_semantics.specs.declared.operand.Known.{Known}
use Rattle.ent_semantics.specs.declared.statement.Select.{Select}
use Rattle.ent_semantics.specs.declared.statement.Statement.{Statement}
use Rattle.ent_semantics.specs.declared.statement.Statement.TheVariants as resolved
use Rattle.ent_semantics.specs.Database.{Name, Environment}
use Rattle.ent_semantics.specs.Serial.{is_entangled}
use Rattle.ent_form.specs.declared.catalogue.TableSchema.{TableSchema}
use Rattle.ent_form.specs.declared.fault.FormFault.TheVariants.{Arity}
use Rattle.ent_form.specs.Entangled.{membership_in, members_from, memberships_from, variables_of, offer_from, no_offer}
use Rattle.ent_form.specs.Entangled.{heads_from, others_from, entangled_in}
use Rattle.ent_form.specs.Form.{statement_in}
use Rattle.ent_form.specs.Kinds.{Bound, none_bound}
use Rattle.ent_form.specs.Lookup.{values_in, expression_in}
use Rattle.ent_form.specs.Ordinary.{tests_in, items_in, select_in, row_from, insert_in, delete_in, image_in}
use Rattle.ent_form.specs.Ordinary.{update_in, set_in}
use Rattle.ent_form.specs.Scope.{sources_in, no_source, table_in, table_scope}
use Rattle.ent_form.proofs.Heads.{found_of}
use Rattle.ent_semantics.specs.FormKinds.{KeepsKinds, Fits, tables_named}
use Rattle.ent_form.specs.TableKinds.{column_kinds, kinds_numbered, AreDeclared, HasKinds}
use Rattle.ent_form.proofs.ColumnKinds.{kinds_seen, image_kinded}
use Rattle.ent_form.proofs.Found.{found_in, sources_seen}
use Rattle.ent_form.proofs.Known.{row_kinded}
use Rattle.ent_form.proofs.ResolvedSteps.{one_answer, demand_given}

-- ---- tables that are declared

module _ (schemas : List TableSchema) (bound : Bound) where
  abbrev names_declared : Statement Known → Type 0
  names_declared form = AreDeclared schemas (tables_named form)

  pub select_declared : (select : TreeSelect) (found : Select Known × List Kind)
      → select_in schemas bound select ≡ Ok found → AreDeclared schemas found.0.sources
  unfolding select_in
  select_declared select found e =
      let scope = found_of (sources_in schemas select.sources) _ found e in
      let tests = found_of (tests_in scope.0 bound select.tests) _ found scope.2 in
      let shown = found_of (items_in scope.0 bound select.items) _ found tests.2 in
      let seen = sources_seen schemas select.sources no_source scope.0
      (record { declared = tt; kinds = refl }) scope.1 in
      subst (λ (f : Select Known × List Kind). AreDeclared schemas f.0.sources)
      (one_answer (record { sources = scope.0.tables; items = shown.0.0; tests = tests.0 }, shown.0.1) found shown.2)
      seen.declared

  insert_declared : (insert : Insert) (form : Statement Known) → insert_in schemas bound insert ≡ Ok form
      → names_declared form
  unfolding insert_in
  insert_declared insert form e =
      let table = found_of (table_in schemas insert.table) _ form e in
      let kept = demand_given (length insert.values == length table.0.1.columns) (Arity insert.place) _ form table.2 in
      let row = found_of (row_from bound [] table.0.1.columns insert.values) _ form kept.1 in
      subst names_declared (one_answer (resolved.Insert table.0.0 row.0) form row.2)
      ((found_in schemas insert.table table.0 table.1).declared, tt)

  delete_declared : (delete : Delete) (form : Statement Known) → delete_in schemas bound delete ≡ Ok form
      → names_declared form
  unfolding delete_in
  delete_declared delete form e =
      let table = found_of (table_in schemas delete.table) _ form e in
      let tests = found_of (tests_in (table_scope delete.table.name table.0) bound delete.tests) _ form table.2 in
      subst names_declared (one_answer (resolved.Delete table.0.0 tests.0) form tests.2)
      ((found_in schemas delete.table table.0 table.1).declared, tt)

  update_declared : (update : Update) (form : Statement Known) → update_in schemas bound update ≡ Ok form
      → names_declared form
  unfolding update_in
  update_declared update form e =
      let table = found_of (table_in schemas update.table) _ form e in
      let scope = table_scope update.table.name table.0 in
      let tests = found_of (tests_in scope bound update.tests) _ form table.2 in
      let image = found_of (image_in scope bound table.0.1.columns update.assignments) _ form tests.2 in
      subst names_declared (one_answer (resolved.Update table.0.0 image.0 tests.0) form image.2)
      ((found_in schemas update.table table.0 table.1).declared, tt)

  set_declared : (set : Set) (found : Statement Known × Bound) → set_in bound set ≡ Ok found → names_declared found.0
  unfolding set_in
  set_declared set found e =
      let value = found_of (expression_in (values_in bound) set.expression) _ found e in
      subst (λ (f : Statement Known × Bound). names_declared f.0) (one_answer _ found value.2) tt

  -- ---- those of sub-selects

  all_joined : {A : Type 0} (P : A → Type 0) (xs ys : List A)
      → AllByRecursion P xs → AllByRecursion P ys → AllByRecursion P (xs ++ ys)
  all_joined P [] ys h k = k
  all_joined P (x ∷ xs) ys h k = (h.0, all_joined P xs ys h.1 k)

  abbrev tables_of : List (Membership Known) → List ℕ
  tables_of made = flat_map (λ (membership : Membership Known). membership.select.sources) made

  membership_declared : (names : List Name) (demanded : Bound) (tuple : Tuple) (select : TreeSelect)
      → (found : Membership Known × Bound) → membership_in schemas bound names demanded tuple select ≡ Ok found
      → AreDeclared schemas found.0.select.sources
  unfolding membership_in
  membership_declared names demanded tuple select found e =
      let inner = found_of (select_in schemas bound select) _ found e in
      let kept = demand_given (length tuple.terms == length inner.0.1) (Arity tuple.place) _ found inner.2 in
      let members = found_of (members_from names bound [] demanded inner.0.1 tuple.terms) _ found kept.1 in
      subst (λ (f : Membership Known × Bound). AreDeclared schemas f.0.select.sources)
      (one_answer (record { terms = members.0.0; select = inner.0.0 }, members.0.1) found members.2)
      (select_declared select inner.0 inner.1)

  memberships_declared : (names : List Name) (all : List Condition) (made : List (Membership Known)) (demanded : Bound)
      → (found : List (Membership Known) × Bound) → AreDeclared schemas (tables_of made)
      → memberships_from schemas bound names made demanded all ≡ Ok found
      → AreDeclared schemas (tables_of found.0)
  memberships_declared names [] made demanded found h e =
      subst (λ (f : List (Membership Known) × Bound). AreDeclared schemas (tables_of f.0))
      (one_answer (made, demanded) found e) h
  memberships_declared names (conditions.InSelect tuple select ∷ more) made demanded found h e =
      let w = found_of (membership_in schemas bound names demanded tuple select) _ found e in
      memberships_declared names more (made ++ w.0.0 ∷ []) w.0.1 found
      (subst (AreDeclared schemas)
      (sym (flat_map-append (λ (membership : Membership Known). membership.select.sources) made (w.0.0 ∷ [])
      ∙ ap (λ xs. tables_of made ++ xs) (append-nil w.0.0.select.sources)))
      (all_joined (λ number. number < length schemas) (tables_of made) w.0.0.select.sources h
      (membership_declared names demanded tuple select w.0 w.1))) w.2
  memberships_declared names (conditions.InAnswer tuple relation ∷ more) made demanded found h e =
      memberships_declared names more made demanded found h e
  memberships_declared names (conditions.Test test ∷ more) made demanded found h e =
      memberships_declared names more made demanded found h e

  entangled_declared : (entangled : TreeEntangled) (found : Entangled Known × Bound)
      → entangled_in schemas bound entangled ≡ Ok found → AreDeclared schemas (tables_of found.0.atoms)
  unfolding entangled_in
  entangled_declared entangled found e =
      let names = variables_of entangled in
      let body = found_of (memberships_from schemas bound names [] none_bound entangled.conditions) _ found e in
      let offer = found_of (offer_from names body.0.1 bound no_offer entangled.items) _ found body.2 in
      let heads = found_of (heads_from offer.0.terms [] [] entangled.relations) _ found offer.2 in
      let others = found_of (others_from names body.0.1 bound [] [] entangled.conditions) _ found heads.2 in
      subst (λ (f : Entangled Known × Bound). AreDeclared schemas (tables_of f.0.atoms)) (one_answer _ found others.2)
      (memberships_declared names entangled.conditions [] none_bound body.0 tt body.1)

  pub statement_declared : (statement : TreeStatement) (form : Statement Known) (after : Bound)
      → statement_in schemas bound statement ≡ Ok (form, after) → names_declared form
  unfolding statement_in
  statement_declared (statements.Select select) form after e =
      let w = found_of (select_in schemas bound select) _ (form, after) e in
      subst (λ (f : Statement Known × Bound). names_declared f.0)
      (one_answer (resolved.Select w.0.0, bound) (form, after) w.2) (select_declared select w.0 w.1)
  statement_declared (statements.Entangled entangled) form after e =
      let w = found_of (entangled_in schemas bound entangled) _ (form, after) e in
      subst (λ (f : Statement Known × Bound). names_declared f.0)
      (one_answer (resolved.Entangled w.0.0, w.0.1) (form, after) w.2) (entangled_declared entangled w.0 w.1)
  statement_declared (statements.Insert insert) form after e =
      let w = found_of (insert_in schemas bound insert) _ (form, after) e in
      subst (λ (f : Statement Known × Bound). names_declared f.0) (one_answer (w.0, bound) (form, after) w.2)
      (insert_declared insert w.0 w.1)
  statement_declared (statements.Delete delete) form after e =
      let w = found_of (delete_in schemas bound delete) _ (form, after) e in
      subst (λ (f : Statement Known × Bound). names_declared f.0) (one_answer (w.0, bound) (form, after) w.2)
      (delete_declared delete w.0 w.1)
  statement_declared (statements.Update update) form after e =
      let w = found_of (update_in schemas bound update) _ (form, after) e in
      subst (λ (f : Statement Known × Bound). names_declared f.0) (one_answer (w.0, bound) (form, after) w.2)
      (update_declared update w.0 w.1)
  statement_declared (statements.Set set) form after e = set_declared set (form, after) e

-- ---- closing names the same tables

same_sources : (environment : Environment) (atoms : List (Membership Known))
    → flat_map (λ (membership : Membership Value). membership.select.sources)
    (map (membership_over (known_worth environment)) atoms)
    ≡ flat_map (λ (membership : Membership Known). membership.select.sources) atoms
same_sources environment [] = refl
same_sources environment (atom ∷ atoms) = ap (λ xs. atom.select.sources ++ xs) (same_sources environment atoms)

pub closed_names : (form : Statement Known) (environment : Environment)
    → tables_named (closed environment form) ≡ tables_named form
closed_names (resolved.Select select) environment = refl
closed_names (resolved.Entangled entangled) environment = same_sources environment entangled.atoms
closed_names (resolved.Insert table values) environment = refl
closed_names (resolved.Delete table tests) environment = refl
closed_names (resolved.Update table image tests) environment = refl
closed_names (resolved.Set variable expression) environment = refl

-- ---- fitting

module _ (schemas : List TableSchema) (bound : Bound) (environment : Environment) (have : HasKinds bound environment)
  where
    abbrev pub fits : Statement Known → Type 0
    fits form = Fits (map (kinds_numbered schemas) (tables_named (closed environment form))) (closed environment form)

    insert_fits : (insert : Insert) (form : Statement Known) → insert_in schemas bound insert ≡ Ok form → fits form
    unfolding insert_in
    insert_fits insert form e =
        let table = found_of (table_in schemas insert.table) _ form e in
        let columns = table.0.1.columns in
        let kept = demand_given (length insert.values == length columns) (Arity insert.place) _ form table.2 in
        let row = found_of (row_from bound [] columns insert.values) _ form kept.1 in
        let here = found_in schemas insert.table table.0 table.1 in
        let is : kinds_of (map (known_worth environment) row.0) ≡ column_kinds table.0.1 =
        map-map kind_of (known_worth environment) row.0
        ∙ row_kinded bound environment have columns insert.values [] row.0 (eqb-true _ _ kept.0) row.1 in
        subst fits (one_answer (resolved.Insert table.0.0 row.0) form row.2)
        (ap (λ (kinds : List Kind). kinds ∷ []) (here.kinds ∙ sym is))

    delete_fits : (delete : Delete) (form : Statement Known) → delete_in schemas bound delete ≡ Ok form → fits form
    unfolding delete_in
    delete_fits delete form e =
        let table = found_of (table_in schemas delete.table) _ form e in
        let tests = found_of (tests_in (table_scope delete.table.name table.0) bound delete.tests) _ form table.2 in
        subst fits (one_answer (resolved.Delete table.0.0 tests.0) form tests.2)
        (kinds_numbered schemas table.0.0, refl)

    update_fits : (update : Update) (form : Statement Known) → update_in schemas bound update ≡ Ok form → fits form
    unfolding update_in
    update_fits update form e =
        let table = found_of (table_in schemas update.table) _ form e in
        let columns = table.0.1.columns in
        let scope = table_scope update.table.name table.0 in
        let tests = found_of (tests_in scope bound update.tests) _ form table.2 in
        let image = found_of (image_in scope bound columns update.assignments) _ form tests.2 in
        let here = found_in schemas update.table table.0 table.1 in
        let over : List _ = map (expression_over (operand_over (known_worth environment))) image.0 in
        subst fits (one_answer (resolved.Update table.0.0 image.0 tests.0) form image.2) (
          kinds_numbered schemas table.0.0,
          refl,
          subst (λ kinds. KeepsKinds kinds over) (sym here.kinds)
              (image_kinded bound environment have scope columns (kinds_seen update.table.name columns)
              update.assignments image.0 image.1),
        )

    set_fits : (set : Set) (found : Statement Known × Bound) → set_in bound set ≡ Ok found → fits found.0
    unfolding set_in
    set_fits set found e =
        let value = found_of (expression_in (values_in bound) set.expression) _ found e in
        subst (λ (f : Statement Known × Bound). fits f.0) (one_answer _ found value.2) refl

    pub statement_fits : (statement : TreeStatement) (form : Statement Known) (after : Bound)
        → statement_in schemas bound statement ≡ Ok (form, after) → is_entangled statement ≡ false → fits form
    unfolding statement_in
    statement_fits (statements.Select select) form after e ordinary =
        let w = found_of (select_in schemas bound select) _ (form, after) e in
        subst (λ (f : Statement Known × Bound). fits f.0) (one_answer (resolved.Select w.0.0, bound) (form, after) w.2)
        (length-map w.0.0.sources (kinds_numbered schemas))
    statement_fits (statements.Entangled entangled) form after e ordinary = cc
    statement_fits (statements.Insert insert) form after e ordinary =
        let w = found_of (insert_in schemas bound insert) _ (form, after) e in
        subst (λ (f : Statement Known × Bound). fits f.0) (one_answer (w.0, bound) (form, after) w.2)
        (insert_fits insert w.0 w.1)
    statement_fits (statements.Delete delete) form after e ordinary =
        let w = found_of (delete_in schemas bound delete) _ (form, after) e in
        subst (λ (f : Statement Known × Bound). fits f.0) (one_answer (w.0, bound) (form, after) w.2)
        (delete_fits delete w.0 w.1)
    statement_fits (statements.Update update) form after e ordinary =
        let w = found_of (update_in schemas bound update) _ (form, after) e in
        subst (λ (f : Statement Known × Bound). fits f.0) (one_answer (w.0, bound) (form, after) w.2)
        (update_fits update w.0 w.1)
    statement_fits (statements.Set set) form after e ordinary = set_fits set (form, after) e
