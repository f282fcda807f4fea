-- A form uses the tables of the names that its statement uses.
use Rattle.std.proofs.Common.{◌≡◌, ℕ, ◌<◌, List, [], ◌∷◌, ◌++◌, length, map, Ok, refl, sym, ap, subst, ◌∙◌}
use Rattle.std.specs.Prelude.{not, ◌==◌}
use Rattle.std.specs.List.{AllByRecursion, flat_map}
use Rattle.std.proofs.lemmas.Bool.{eqb-true}
use Rattle.std.proofs.lemmas.Grind.{flat_map-append}
use Rattle.std.proofs.lemmas.List.{append-nil, append_assoc, map-append}
use Rattle.ent_value.specs.declared.value.Kind.{Kind}
use Rattle.ent_tree.specs.declared.declaration.Create.{Create}
use Rattle.ent_tree.specs.declared.entangled.Condition.{Condition}
use Rattle.ent_tree.specs.declared.entangled.Condition.TheVariants as conditions
use Rattle.ent_tree.specs.declared.entangled.Entangled.{Entangled as TreeEntangled}
use Rattle.ent_tree.specs.declared.entangled.Tuple.{Tuple}
use Rattle.ent_tree.specs.declared.script.Statement.{Statement as TreeStatement}
use Rattle.ent_tree.specs.declared.script.Statement.TheVariants as statements
use Rattle.ent_tree.specs.declared.select.Select.{Select as TreeSelect}
use Rattle.ent_tree.specs.declared.select.Source.{Source}
use Rattle.ent_tree.specs.declared.statement.Delete.{Delete}
use Rattle.ent_tree.specs.declared.statement.Insert.{Insert}
use Rattle.ent_tree.specs.declared.statement.Set.{Set}
use Rattle.ent_tree.specs.declared.statement.Update.{Update}
use Rattle.ent_semantics.specs.Database.{Name, is_among}
use Rattle.ent_semantics.specs.declared.entangled.Entangled.{Entangled}
use Rattle.ent_semantics.specs.declared.entangled.Membership.{Membership}
use Rattle.ent_semantics.specs.declared.operand.Known.{Known}
use Rattle.ent_semantics.specs.declared.statement.Select.{Select}
use Rattle.ent_semantics.specs.declared.statement.Statement.{Statement}
use Rattle.ent_semantics.specs.declared.statement.Statement.TheVariants as forms
use Rattle.ent_semantics.specs.Term.{source_name}
use Rattle.ent_semantics.specs.Uses.{select_tables, condition_tables, shared_tables, exclusive_tables}
use Rattle.ent_form.specs.declared.catalogue.TableSchema.{TableSchema}
use Rattle.ent_form.specs.declared.fault.FormFault.TheVariants.{NoTable, Ambiguous, Arity}
use Rattle.ent_form.specs.Entangled.{membership_in, members_from, memberships_from, variables_of, offer_from, no_offer}
use Rattle.ent_form.specs.Entangled.{heads_from, others_from, entangled_in}
use Rattle.ent_form.specs.Form.{statement_in}
use Rattle.ent_form.specs.Kinds.{Bound, none_bound}
use Rattle.ent_form.specs.Lookup.{values_in, expression_in}
use Rattle.ent_form.specs.Ordinary.{tests_in, items_in, select_in, row_from, insert_in, delete_in, image_in}
use Rattle.ent_form.specs.Ordinary.{update_in, set_in}
use Rattle.ent_form.specs.Scope.{Scope, with_source, source_place, sources_from, sources_in, no_source, table_in}
use Rattle.ent_form.specs.Scope.{table_scope}
use Rattle.ent_form.specs.Steps.{there}
use Rattle.ent_form.proofs.ResolvedSteps.{one_answer, demand_given}
use Rattle.ent_protocol_laws.specs.Faithful.{table_number, IsFaithfulEntangled, AreAlike}
use Rattle.ent_lists.specs.Elements.{all_joined}
use Rattle.ent_form.specs.Catalogue.{schemas_of, table_named}
use Rattle.ent_form.proofs.Heads.{found_of, there_of}
use Rattle.ent_headline.proofs.FittedRows.{row_long, image_long}
use Rattle.ent_headline.proofs.Numbers.{width_numbered, Found, found_named, found_in}
use Rattle.ent_headline.proofs.Widths.{FitsTable, FitsWidth}

-- the tables that a form names, those that it reads and the one that it changes
abbrev pub read_by : Statement Known → List ℕ
read_by (forms.Select select) = select.sources
read_by (forms.Entangled entangled) = flat_map (λ membership. membership.select.sources) entangled.atoms
read_by (forms.Insert table values) = []
read_by (forms.Delete table tests) = []
read_by (forms.Update table image tests) = []
read_by (forms.Set variable expression) = []

abbrev pub changed_by : Statement Known → List ℕ
changed_by (forms.Select select) = []
changed_by (forms.Entangled entangled) = []
changed_by (forms.Insert table values) = table ∷ []
changed_by (forms.Delete table tests) = table ∷ []
changed_by (forms.Update table image tests) = table ∷ []
changed_by (forms.Set variable expression) = []

module _ (creates : List Create) where
  -- tables by number, and declared under these names
  pub record Named (names : List Name) (tables : List ℕ) : Type 0 where
    pub numbers : tables ≡ map (table_number creates) names
    pub declared : AllByRecursion (λ name. table_number creates name < length creates) names

  none_named : Named [] []
  none_named = record { numbers = refl; declared = tt }

  joined : (names others : List Name) (tables more : List ℕ) → Named names tables → Named others more
      → Named (names ++ others) (tables ++ more)
  joined names others tables more h k =
      record {
        numbers = (λ i. h.numbers i ++ k.numbers i) ∙ sym (map-append (table_number creates) names others);
        declared = all_joined (λ name. table_number creates name < length creates) names others h.declared k.declared;
      }

  one_named : (name : Name) (found : ℕ × TableSchema) → Found creates name found → Named (name ∷ []) (found.0 ∷ [])
  one_named name found here =
      record { numbers = ap (λ (n : ℕ). n ∷ []) here.number; declared = (here.declared, tt) }

  sources_named : (sources : List Source) (scope out : Scope) (names : List Name) → Named names scope.tables
      → sources_from (schemas_of creates) scope sources ≡ Ok out
      → Named (names ++ map (λ source. source.table.name) sources) out.tables
  sources_named [] scope out names h e =
      subst (λ all. Named all out.tables) (sym (append-nil names))
      (subst (λ (s : Scope). Named names s.tables) (one_answer scope out e) h)
  sources_named (source ∷ more) scope out names h e =
      let name = source_name source in
      let table = source.table.name in
      let w = found_of (there (table_named (schemas_of creates) table) (NoTable source.table.place)) _ out e in
      let found : ℕ × TableSchema = w.0 in
      let kept = demand_given (not (is_among scope.names name)) (Ambiguous (source_place source)) _ out w.2 in
      let here = found_named creates table found
      (there_of (table_named (schemas_of creates) table) (NoTable source.table.place) found w.1) in
      subst (λ all. Named all out.tables)
      (append_assoc names (table ∷ []) (map (λ (source : Source). source.table.name) more))
      (sources_named more (with_source scope name found) out (names ++ table ∷ [])
      (joined names (table ∷ []) scope.tables (found.0 ∷ []) h (one_named table found here)) kept.1)

  fitting : (name : Name) (found : ℕ × TableSchema) → Found creates name found → (values : ℕ)
      → values ≡ length found.1.columns → FitsTable creates found.0 values
  fitting name found here values long =
      record {
        declared = subst (λ n. n < length creates) (sym here.number) here.declared;
        width = long ∙ sym here.width ∙ ap (width_numbered creates) (sym here.number);
      }

  -- a form reads and changes the tables that its statement names, by rows of their widths, and is entangled where it is
  pub record IsRight (statement : TreeStatement) (form : Statement Known) : Type 0 where
    pub reads : Named (shared_tables statement) (read_by form)
    pub changes : Named (exclusive_tables statement) (changed_by form)
    pub fits : FitsWidth creates form
    pub alike : AreAlike creates statement form

  module _ (bound : Bound) where
    select_named : (select : TreeSelect) (found : Select Known × List Kind)
        → select_in (schemas_of creates) bound select ≡ Ok found → Named (select_tables select) found.0.sources
    unfolding select_in
    select_named select found e =
        let scope = found_of (sources_in (schemas_of creates) select.sources) _ found e in
        let tests = found_of (tests_in scope.0 bound select.tests) _ found scope.2 in
        let shown = found_of (items_in scope.0 bound select.items) _ found tests.2 in
        subst (λ (f : Select Known × List Kind). Named (select_tables select) f.0.sources)
        (one_answer (record { sources = scope.0.tables; items = shown.0.0; tests = tests.0 }, shown.0.1) found
        shown.2)
        (sources_named select.sources no_source scope.0 [] none_named scope.1)

    -- ---- sub-selects

    abbrev tables_of : List (Membership Known) → List ℕ
    tables_of made = flat_map (λ (membership : Membership Known). membership.select.sources) made

    membership_named : (names : List Name) (demanded : Bound) (tuple : Tuple) (select : TreeSelect)
        → (found : Membership Known × Bound)
        → membership_in (schemas_of creates) bound names demanded tuple select ≡ Ok found
        → Named (select_tables select) found.0.select.sources
    unfolding membership_in
    membership_named names demanded tuple select found e =
        let inner = found_of (select_in (schemas_of creates) bound select) _ found e in
        let kept = demand_given (length tuple.terms == length inner.0.1) (Arity tuple.place) _ found inner.2 in
        let members = found_of (members_from names bound [] demanded inner.0.1 tuple.terms) _ found kept.1 in
        subst (λ (f : Membership Known × Bound). Named (select_tables select) f.0.select.sources)
        (one_answer (record { terms = members.0.0; select = inner.0.0 }, members.0.1) found members.2)
        (select_named select inner.0 inner.1)

    memberships_named : (variables : List Name) (all : List Condition) (made : List (Membership Known))
        (demanded : Bound) (found : List (Membership Known) × Bound) (names : List Name)
        → Named names (tables_of made)
        → memberships_from (schemas_of creates) bound variables made demanded all ≡ Ok found
        → Named (names ++ flat_map condition_tables all) (tables_of found.0)
    memberships_named variables [] made demanded found names h e =
        subst (λ all. Named all (tables_of found.0)) (sym (append-nil names))
        (subst (λ (f : List (Membership Known) × Bound). Named names (tables_of f.0))
        (one_answer (made, demanded) found e) h)
    memberships_named variables (conditions.InSelect tuple select ∷ more) made demanded found names h e =
        let w = found_of (membership_in (schemas_of creates) bound variables demanded tuple select) _ found e in
        subst (λ all. Named all (tables_of found.0))
        (append_assoc names (select_tables select) (flat_map condition_tables more))
        (memberships_named variables more (made ++ w.0.0 ∷ []) w.0.1 found (names ++ select_tables select)
        (subst (Named (names ++ select_tables select))
        (sym (flat_map-append (λ (membership : Membership Known). membership.select.sources) made (w.0.0 ∷ [])
        ∙ ap (λ xs. tables_of made ++ xs) (append-nil w.0.0.select.sources)))
        (joined names (select_tables select) (tables_of made) w.0.0.select.sources h
        (membership_named variables demanded tuple select w.0 w.1))) w.2)
    memberships_named variables (conditions.InAnswer tuple relation ∷ more) made demanded found names h e =
        memberships_named variables more made demanded found names h e
    memberships_named variables (conditions.Test test ∷ more) made demanded found names h e =
        memberships_named variables more made demanded found names h e

    entangled_named : (entangled : TreeEntangled) (found : Entangled Known × Bound)
        → entangled_in (schemas_of creates) bound entangled ≡ Ok found
        → Named (flat_map condition_tables entangled.conditions) (tables_of found.0.atoms)
    unfolding entangled_in
    entangled_named entangled found e =
        let names = variables_of entangled in
        let body = found_of
        (memberships_from (schemas_of creates) bound names [] none_bound entangled.conditions) _ found e in
        let offer = found_of (offer_from names body.0.1 bound no_offer entangled.items) _ found body.2 in
        let heads = found_of (heads_from offer.0.terms [] [] entangled.relations) _ found offer.2 in
        let others = found_of (others_from names body.0.1 bound [] [] entangled.conditions) _ found heads.2 in
        subst (λ (f : Entangled Known × Bound).
        Named (flat_map condition_tables entangled.conditions) (tables_of f.0.atoms))
        (one_answer _ found others.2)
        (memberships_named names entangled.conditions [] none_bound body.0 [] none_named body.1)

    -- ---- statements

    module _ (faithful : (entangled : TreeEntangled) (form : Entangled Known) (after : Bound)
        → entangled_in (schemas_of creates) bound entangled ≡ Ok (form, after)
        → IsFaithfulEntangled creates entangled form) where
      insert_right : (insert : Insert) (form : Statement Known) → insert_in (schemas_of creates) bound insert ≡ Ok form
          → IsRight (statements.Insert insert) form
      unfolding insert_in
      insert_right insert form e =
          let table = found_of (table_in (schemas_of creates) insert.table) _ form e in
          let columns = table.0.1.columns in
          let kept = demand_given (length insert.values == length columns) (Arity insert.place) _ form table.2 in
          let row = found_of (row_from bound [] columns insert.values) _ form kept.1 in
          let here = found_in creates insert.table table.0 table.1 in
          let long : length row.0 ≡ length columns =
          row_long bound columns insert.values row.0 (eqb-true _ _ kept.0) row.1 in
          subst (IsRight (statements.Insert insert)) (one_answer (forms.Insert table.0.0 row.0) form row.2)
          (record {
            reads = none_named;
            changes = one_named insert.table.name table.0 here;
            fits = fitting insert.table.name table.0 here (length row.0) long;
            alike = tt;
          })

      delete_right : (delete : Delete) (form : Statement Known) → delete_in (schemas_of creates) bound delete ≡ Ok form
          → IsRight (statements.Delete delete) form
      unfolding delete_in
      delete_right delete form e =
          let table = found_of (table_in (schemas_of creates) delete.table) _ form e in
          let scope = table_scope delete.table.name table.0 in
          let tests = found_of (tests_in scope bound delete.tests) _ form table.2 in
          let here = found_in creates delete.table table.0 table.1 in
          subst (IsRight (statements.Delete delete)) (one_answer (forms.Delete table.0.0 tests.0) form tests.2)
          (record {
            reads = none_named;
            changes = one_named delete.table.name table.0 here;
            fits = (fitting delete.table.name table.0 here (length table.0.1.columns) refl).declared;
            alike = tt;
          })

      update_right : (update : Update) (form : Statement Known) → update_in (schemas_of creates) bound update ≡ Ok form
          → IsRight (statements.Update update) form
      unfolding update_in
      update_right update form e =
          let table = found_of (table_in (schemas_of creates) update.table) _ form e in
          let scope = table_scope update.table.name table.0 in
          let columns = table.0.1.columns in
          let tests = found_of (tests_in scope bound update.tests) _ form table.2 in
          let image = found_of (image_in scope bound columns update.assignments) _ form tests.2 in
          let here = found_in creates update.table table.0 table.1 in
          subst (IsRight (statements.Update update)) (one_answer (forms.Update table.0.0 image.0 tests.0) form image.2)
          (record {
            reads = none_named;
            changes = one_named update.table.name table.0 here;
            fits = fitting update.table.name table.0 here (length image.0)
                (image_long scope bound columns update.assignments image.0 image.1);
            alike = tt;
          })

      set_right : (setting : Set) (found : Statement Known × Bound) → set_in bound setting ≡ Ok found
          → IsRight (statements.Set setting) found.0
      unfolding set_in
      set_right setting found e =
          let value = found_of (expression_in (values_in bound) setting.expression) _ found e in
          subst (λ (f : Statement Known × Bound). IsRight (statements.Set setting) f.0) (one_answer _ found value.2)
          (record { reads = none_named; changes = none_named; fits = tt; alike = tt })

      pub statement_right : (statement : TreeStatement) (form : Statement Known) (after : Bound)
          → statement_in (schemas_of creates) bound statement ≡ Ok (form, after) → IsRight statement form
      unfolding statement_in
      statement_right (statements.Select select) form after e =
          let w = found_of (select_in (schemas_of creates) bound select) _ (form, after) e in
          subst (λ (f : Statement Known × Bound). IsRight (statements.Select select) f.0)
          (one_answer (forms.Select w.0.0, bound) (form, after) w.2)
          (record { reads = select_named select w.0 w.1; changes = none_named; fits = tt; alike = tt })
      statement_right (statements.Entangled entangled) form after e =
          let w = found_of (entangled_in (schemas_of creates) bound entangled) _ (form, after) e in
          subst (λ (f : Statement Known × Bound). IsRight (statements.Entangled entangled) f.0)
          (one_answer (forms.Entangled w.0.0, w.0.1) (form, after) w.2)
          (record {
            reads = entangled_named entangled w.0 w.1;
            changes = none_named;
            fits = tt;
            alike = faithful entangled w.0.0 w.0.1 w.1;
          })
      statement_right (statements.Insert insert) form after e =
          let w = found_of (insert_in (schemas_of creates) bound insert) _ (form, after) e in
          subst (λ (f : Statement Known × Bound). IsRight (statements.Insert insert) f.0)
          (one_answer (w.0, bound) (form, after) w.2) (insert_right insert w.0 w.1)
      statement_right (statements.Delete delete) form after e =
          let w = found_of (delete_in (schemas_of creates) bound delete) _ (form, after) e in
          subst (λ (f : Statement Known × Bound). IsRight (statements.Delete delete) f.0)
          (one_answer (w.0, bound) (form, after) w.2) (delete_right delete w.0 w.1)
      statement_right (statements.Update update) form after e =
          let w = found_of (update_in (schemas_of creates) bound update) _ (form, after) e in
          subst (λ (f : Statement Known × Bound). IsRight (statements.Update update) f.0)
          (one_answer (w.0, bound) (form, after) w.2) (update_right update w.0 w.1)
      statement_right (statements.Set setting) form after e = set_right setting (form, after) e
