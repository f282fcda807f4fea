-- The values of a grounding are of the kinds that the variables are demanded in.
use Rattle.std.proofs.Common.{◌≡◌, ℕ, suc, Bool, true, false, ◌||◌, List, [], ◌∷◌, ◌++◌, length, map}
use Rattle.std.proofs.Common.{Option, Some, None, Ok, refl, sym, ap, subst, ◌∙◌, arith}
use Rattle.std.specs.Prelude.{slice_index_or, unwrap_or, if◌then◌else◌, ◌==◌}
use Rattle.std.specs.List.{AllByRecursion, IsDistinct, list_all}
use Rattle.std.proofs.lemmas.Bool.{and_parts, eqb-true}
use Rattle.std.proofs.lemmas.List.{append-nil, append_assoc, map-append, length-append, length-map}
use Rattle.std.proofs.lemmas.List.Folds.{flat_map-map}
use Rattle.std.proofs.lemmas.Simd.{map-map}
use Rattle.ent_lists.specs.Sets as set
use Rattle.ent_value.specs.Value.{kind_of, kinds_of}
use Rattle.ent_value.specs.declared.value.Kind.{Kind}
use Rattle.ent_value.specs.declared.value.Kind.TheVariants.{Int}
use Rattle.ent_value.specs.declared.value.Value.{Value}
use Rattle.ent_value.specs.Kinds.{same_kind}
use Rattle.ent_tree.specs.declared.entangled.Condition.{Condition}
use Rattle.ent_tree.specs.declared.entangled.Condition.TheVariants as conditions
use Rattle.ent_tree.specs.declared.entangled.Entangled.{Entangled as TreeEntangled}
use Rattle.ent_tree.specs.declared.entangled.EntangledItem.{EntangledItem}
use Rattle.ent_tree.specs.declared.entangled.Term.{Term as TreeTerm}
use Rattle.ent_tree.specs.declared.entangled.Term.TheVariants as terms
use Rattle.ent_tree.specs.declared.entangled.Tuple.{Tuple}
use Rattle.ent_tree.specs.declared.operand.Identifier.{Identifier}
use Rattle.ent_tree.specs.declared.operand.Operand.{Operand as TreeOperand}
use Rattle.ent_tree.specs.declared.operand.Test.{Test}
use Rattle.ent_tree.specs.declared.select.Items.{Items}
use Rattle.ent_tree.specs.declared.select.Items.TheVariants as items
use Rattle.ent_tree.specs.declared.select.Select.{Select as TreeSelect}
use Rattle.ent_semantics.specs.Database.{Name, Rows, Environment, same_name, is_among, index_of}
use Rattle.ent_semantics.specs.Closing.{operand_over}
use Rattle.ent_semantics.specs.Form.{Tables, known_worth, operand_worth, term_worth, form_rows, membership_holds}
use Rattle.ent_semantics.specs.Form.{is_form_grounding}
use Rattle.ent_semantics.specs.declared.entangled.Atom.{Atom}
use Rattle.ent_semantics.specs.declared.entangled.Entangled.{Entangled}
use Rattle.ent_semantics.specs.declared.entangled.Membership.{Membership}
use Rattle.ent_semantics.specs.declared.entangled.Term.{Term}
use Rattle.ent_semantics.specs.declared.entangled.Term.TheVariants as resolved
use Rattle.ent_semantics.specs.declared.operand.Known.{Known}
use Rattle.ent_semantics.specs.declared.operand.Operand.{Operand}
use Rattle.ent_semantics.specs.declared.statement.Select.{Select}
use Rattle.ent_semantics.specs.Entangled.{Valuation}
use Rattle.ent_semantics.specs.Kinds.{KindedSource, RowsHaveKinds, SourcesHaveKinds, kinds_side_by_side, ShowsKinds}
use Rattle.ent_semantics.specs.Names.{equal_names, name_itself}
use Rattle.ent_semantics.specs.Selection.{meets, selection}
use Rattle.ent_semantics.specs.Term.{no_value}
use Rattle.ent_form.specs.declared.catalogue.TableSchema.{TableSchema}
use Rattle.ent_form.specs.declared.fault.FormFault.TheVariants.{Arity, WrongKind, Unbound}
use Rattle.ent_form.specs.Entangled.{members_from, membership_in, memberships_from, term_in, terms_in, Offer, no_offer}
use Rattle.ent_form.specs.Entangled.{item_in, offer_from, heads_from, atom_from, post_in, others_from}
use Rattle.ent_form.specs.Entangled.{kinds_of as kinds_demanded, entangled_in}
use Rattle.ent_form.specs.Lookup.{values_in, operand_in, operands_in, kind_in, test_in}
use Rattle.ent_form.specs.Ordinary.{tests_in, Shown, with_item, items_from, columns_from, all_shown, items_in}
use Rattle.ent_form.specs.Ordinary.{select_in}
use Rattle.ent_form.specs.Scope.{Visible, Scope, sources_in, no_source}
use Rattle.ent_form.specs.Steps.{there}
use Rattle.ent_semantics.specs.FormKinds.{operand_kind}
use Rattle.ent_form.specs.Kinds.{Bound, none_bound, with_kind}
use Rattle.ent_form.specs.Entangled.{variables_of, demanded_in, member_in}
use Rattle.ent_form.proofs.Heads.{found_of, there_of}
use Rattle.ent_form.specs.TableKinds.{kinds_numbered, AreKinded, HasKinds}
use Rattle.ent_form.proofs.ColumnKinds.{kind_seen, operand_kinded, kind_behind}
use Rattle.ent_form.proofs.Found.{sources_at, rows_kinded, sources_seen}
use Rattle.ent_form.proofs.Kept.{operand_value_kind}
use Rattle.ent_form.proofs.Noted.{OfVariable, OfVariables, OfItems, OfConditions, terms_weaker}
use Rattle.ent_form.proofs.Noted.{variables_all, variables_once}
use Rattle.ent_form.proofs.ResolvedSteps.{one_answer, demand_given}

-- ---- the kinds of a sub-select's rows

same_heads : {A : Type 0} (x y : A) (xs ys : List A) → x ∷ xs ≡ y ∷ ys → (x ≡ y) × (xs ≡ ys)
same_heads x y xs ys e = (cc, cc)

-- what items that are of these kinds show
items_show : (worth : Known → Value) (kinds : List Kind) (row : List Value) (all : List (Operand Known))
    (wanted : List Kind)
    → kinds_of row ≡ kinds → map (λ item. operand_kind kinds (operand_over worth item)) all ≡ map Some wanted
    → kinds_of (map (operand_worth worth row) all) ≡ wanted
items_show worth kinds row [] [] have e = refl
items_show worth kinds row [] (kind ∷ wanted) have e = cc
items_show worth kinds row (item ∷ all) [] have e = cc
items_show worth kinds row (item ∷ all) (kind ∷ wanted) have e =
    let both = same_heads (operand_kind kinds (operand_over worth item)) (Some kind) _ (map Some wanted) e in
    λ i. operand_value_kind worth kinds row have item kind both.0 i
    ∷ items_show worth kinds row all wanted have both.1 i

module _ (bound : Bound) (environment : Environment) (have : HasKinds bound environment) (scope : Scope) where
  abbrev kind_over : List Kind → Operand Known → Option Kind
  kind_over kinds item = operand_kind kinds (operand_over (known_worth environment) item)

  abbrev columns : List Kind
  columns = map kind_seen scope.columns

  columns_kinds : (before : List Kind) (more : List Visible) (first : ℕ) → length before ≡ first
      → map (kind_over (before ++ map kind_seen more)) (columns_from first more) ≡ map Some (map kind_seen more)
  columns_kinds before [] first l = refl
  columns_kinds before (column ∷ more) first l =
      let longer : length (before ++ column.kind ∷ []) ≡ suc first =
      omega (arith, length-append before (column.kind ∷ []))
      in
      let rest = columns_kinds (before ++ column.kind ∷ []) more (suc first) longer in
      λ i. kind_behind before column.kind (map kind_seen more) first l i
      ∷ (ap (λ (kinds : List Kind). map (kind_over kinds) (columns_from (suc first) more))
      (sym (append_assoc before (column.kind ∷ []) (map kind_seen more))) ∙ rest) i

  listed_kinds : (listed : List TreeOperand) (shown out : Shown)
      → map (kind_over columns) shown.0 ≡ map Some shown.1
      → items_from (operands_in scope bound) shown listed ≡ Ok out
      → map (kind_over columns) out.0 ≡ map Some out.1
  listed_kinds [] shown out h e =
      subst (λ (s : Shown). map (kind_over columns) s.0 ≡ map Some s.1) (one_answer shown out e) h
  listed_kinds (item ∷ more) shown out h e =
      let w = found_of (operand_in scope bound item) _ out e in
      listed_kinds more (with_item shown w.0) out
      (map-append (kind_over columns) shown.0 (w.0.0 ∷ [])
      ∙ (λ i. h i ++ operand_kinded bound environment have scope item w.0 w.1 i ∷ [])
      ∙ sym (map-append (λ (kind : Kind). Some kind) shown.1 (w.0.1 ∷ []))) w.2

  items_kinds : (all : Items) (out : Shown) → items_in scope bound all ≡ Ok out
      → map (kind_over columns) out.0 ≡ map Some out.1
  items_kinds items.All out e =
      subst (λ (s : Shown). map (kind_over columns) s.0 ≡ map Some s.1) (one_answer (all_shown scope) out e)
      (columns_kinds [] scope.columns 0 refl)
  items_kinds (items.Listed listed) out e = listed_kinds listed ([], []) out refl e

-- the law of what is shown of combinations
abbrev pub ItemLaw : Type 0
ItemLaw =
    (matches : List Value → Bool) (shown : List Value → List Value) (sources : List KindedSource) (items : List Kind)
    → SourcesHaveKinds sources
    → ShowsKinds shown (kinds_side_by_side sources) items
    → RowsHaveKinds items (selection matches shown (map (λ source. source.rows) sources))

select_kinds : ItemLaw → (schemas : List TableSchema) (bound : Bound) (environment : Environment) (tables : Tables)
    → HasKinds bound environment → AreKinded schemas tables → (select : TreeSelect) (found : Select Known × List Kind)
    → select_in schemas bound select ≡ Ok found
    → RowsHaveKinds found.1 (form_rows (known_worth environment) tables found.0)
unfolding select_in
select_kinds law schemas bound environment tables have kinded select found e =
    let scope = found_of (sources_in schemas select.sources) _ found e in
    let tests = found_of (tests_in scope.0 bound select.tests) _ found scope.2 in
    let shown = found_of (items_in scope.0 bound select.items) _ found tests.2 in
    let seen = sources_seen schemas select.sources no_source scope.0 (record { declared = tt; kinds = refl }) scope.1 in
    let value = operand_worth (known_worth environment) in
    let kinds : List Kind = map kind_seen scope.0.columns in
    let sources = sources_at schemas tables scope.0.tables in
    let side : kinds_side_by_side sources ≡ kinds =
    flat_map-map (λ (source : KindedSource). source.kinds) (λ number. record {
      kinds = kinds_numbered schemas number;
      rows = slice_index_or tables number set.empty;
    }) scope.0.tables ∙ sym seen.kinds in
    let shows : ShowsKinds (λ row. map (value row) shown.0.0) (kinds_side_by_side sources) shown.0.1 =
    λ row is. items_show (known_worth environment) kinds row shown.0.0 shown.0.1 (is ∙ side)
    (items_kinds bound environment have scope.0 select.items shown.0 shown.1) in
    subst (λ (f : Select Known × List Kind). RowsHaveKinds f.1 (form_rows (known_worth environment) tables f.0))
    (one_answer (record { sources = scope.0.tables; items = shown.0.0; tests = tests.0 }, shown.0.1) found shown.2)
    (subst (λ (rows : List Rows). RowsHaveKinds shown.0.1 (selection (meets value tests.0)
    (λ row. map (value row) shown.0.0) rows))
    (map-map (λ (source : KindedSource). source.rows) (λ number. record {
      kinds = kinds_numbered schemas number;
      rows = slice_index_or tables number set.empty;
    }) scope.0.tables)
    (law (meets value tests.0) (λ row. map (value row) shown.0.0) sources shown.0.1
    (rows_kinded schemas tables scope.0.tables kinded seen.declared) shows))

-- ---- what is demanded

-- a variable is demanded in a kind
abbrev pub IsDemanded : Bound → Name → Type 0
IsDemanded demanded name = (kind : Kind) × (demanded name ≡ Some kind)

abbrev Grows : Bound → Bound → Type 0
Grows earlier later = (name : Name) → IsDemanded earlier name → IsDemanded later name

grown_with : (demanded : Bound) (name : Name) (kind : Kind) → Grows demanded (with_kind demanded name kind)
grown_with demanded name kind other h =
    elim (same_name name other) as (λ b. (found : Kind) × ((if b then Some kind else demanded other) ≡ Some found)) [
      | true ↦ (kind, refl)
      | false ↦ h
    ]

now_demanded : (demanded : Bound) (name : Name) (kind : Kind) → IsDemanded (with_kind demanded name kind) name
now_demanded demanded name kind = (kind, ap (λ b. if b then Some kind else demanded name) (name_itself name))

module _ (names : List Name) (bound : Bound) where
  demand_grows : (demanded : Bound) (variable : Identifier) (kind : Kind) (earlier : Option Kind)
      → (found : Term Known × Bound) → demanded variable.name ≡ earlier
      → demanded_in names demanded variable kind earlier ≡ Ok found
      → Grows demanded found.1 × IsDemanded found.1 variable.name
  demand_grows demanded variable kind None found is e =
      subst (λ (f : Term Known × Bound). Grows demanded f.1 × IsDemanded f.1 variable.name)
      (one_answer (resolved.Variable (index_of names variable.name), with_kind demanded variable.name kind) found e)
      (grown_with demanded variable.name kind, now_demanded demanded variable.name kind)
  demand_grows demanded variable kind (Some earlier) found is e =
      let kept = demand_given (same_kind earlier kind) (WrongKind variable.place) _ found e in
      subst (λ (f : Term Known × Bound). Grows demanded f.1 × IsDemanded f.1 variable.name)
      (one_answer (resolved.Variable (index_of names variable.name), demanded) found kept.1)
      ((λ name h. h), (earlier, is))

  member_grows : (demanded : Bound) (kind : Kind) (term : TreeTerm) (found : Term Known × Bound)
      → member_in names bound demanded kind term ≡ Ok found
      → Grows demanded found.1 × OfVariable (IsDemanded found.1) term
  member_grows demanded kind (terms.Value value) found e =
      let w = found_of (kind_in (values_in bound) kind value) _ found e in
      subst (λ (f : Term Known × Bound). Grows demanded f.1 × Unit {0})
      (one_answer (resolved.Known w.0, demanded) found w.2) ((λ name h. h), tt)
  member_grows demanded kind (terms.Variable variable) found e =
      demand_grows demanded variable kind (demanded variable.name) found refl e

  members_grow : (kinds : List Kind) (all : List TreeTerm) (made : List (Term Known)) (demanded : Bound)
      → (found : List (Term Known) × Bound) → length all ≡ length kinds
      → members_from names bound made demanded kinds all ≡ Ok found
      → Grows demanded found.1 × OfVariables (IsDemanded found.1) all
  members_grow [] [] made demanded found l e =
      subst (λ (f : List (Term Known) × Bound). Grows demanded f.1 × Unit {0}) (one_answer (made, demanded) found e)
      ((λ name h. h), tt)
  members_grow [] (term ∷ more) made demanded found l e = absurd (omega arith)
  members_grow (kind ∷ kinds) [] made demanded found l e = absurd (omega arith)
  members_grow (kind ∷ kinds) (term ∷ more) made demanded found l e =
      let w = found_of (member_in names bound demanded kind term) _ found e in
      let here = member_grows demanded kind term w.0 w.1 in
      let rest = members_grow kinds more (made ++ w.0.0 ∷ []) w.0.1 found (omega arith) w.2 in (
        (λ name h. rest.0 name (here.0 name h)),
        ((terms_weaker (IsDemanded w.0.1) (IsDemanded found.1) rest.0 (term ∷ []) (here.1, tt)).0, rest.1),
      )

-- ---- demanded in sub-selects

-- the terms of a condition that demands of a sub-select
abbrev pub OfSubselect : (Name → Type 0) → Condition → Type 0
OfSubselect P (conditions.InSelect tuple select) = OfVariables P tuple.terms
OfSubselect P (conditions.InAnswer tuple relation) = Unit {0}
OfSubselect P (conditions.Test test) = Unit {0}

-- those of all others
abbrev pub OfOther : (Name → Type 0) → Condition → Type 0
OfOther P (conditions.InSelect tuple select) = Unit {0}
OfOther P (conditions.InAnswer tuple relation) = OfVariables P tuple.terms
OfOther P (conditions.Test test) = OfVariables P (test.left ∷ test.right ∷ [])

pub of_both : (P : Name → Type 0) (all : List Condition) → AllByRecursion (OfSubselect P) all
    → AllByRecursion (OfOther P) all → OfConditions P all
of_both P [] h k = tt
of_both P (conditions.InSelect tuple select ∷ more) h k = (h.0, of_both P more h.1 k.1)
of_both P (conditions.InAnswer tuple relation ∷ more) h k = (k.0, of_both P more h.1 k.1)
of_both P (conditions.Test test ∷ more) h k = (k.0, of_both P more h.1 k.1)

module _ (schemas : List TableSchema) (bound : Bound) (names : List Name) where
  membership_grows : (demanded : Bound) (tuple : Tuple) (select : TreeSelect) (found : Membership Known × Bound)
      → membership_in schemas bound names demanded tuple select ≡ Ok found
      → Grows demanded found.1 × OfVariables (IsDemanded found.1) tuple.terms
  unfolding membership_in
  membership_grows demanded tuple select found e =
      let inner = found_of (select_in schemas bound select) _ found e in
      let kept = demand_given (length tuple.terms == length inner.0.1) (Arity tuple.place) _ found inner.2 in
      let members = found_of (members_from names bound [] demanded inner.0.1 tuple.terms) _ found kept.1 in
      subst (λ (f : Membership Known × Bound). Grows demanded f.1 × OfVariables (IsDemanded f.1) tuple.terms)
      (one_answer (record { terms = members.0.0; select = inner.0.0 }, members.0.1) found members.2)
      (members_grow names bound inner.0.1 tuple.terms [] demanded members.0 (eqb-true _ _ kept.0) members.1)

  memberships_grow : (all : List Condition) (made : List (Membership Known)) (demanded : Bound)
      → (found : List (Membership Known) × Bound)
      → memberships_from schemas bound names made demanded all ≡ Ok found
      → Grows demanded found.1 × AllByRecursion (OfSubselect (IsDemanded found.1)) all
  memberships_grow [] made demanded found e =
      subst (λ (f : List (Membership Known) × Bound). Grows demanded f.1 × Unit {0})
      (one_answer (made, demanded) found e) ((λ name h. h), tt)
  memberships_grow (conditions.InSelect tuple select ∷ more) made demanded found e =
      let w = found_of (membership_in schemas bound names demanded tuple select) _ found e in
      let here = membership_grows demanded tuple select w.0 w.1 in
      let rest = memberships_grow more (made ++ w.0.0 ∷ []) w.0.1 found w.2 in (
        (λ name h. rest.0 name (here.0 name h)),
        (terms_weaker (IsDemanded w.0.1) (IsDemanded found.1) rest.0 tuple.terms here.1, rest.1),
      )
  memberships_grow (conditions.InAnswer tuple relation ∷ more) made demanded found e =
      let rest = memberships_grow more made demanded found e in (rest.0, (tt, rest.1))
  memberships_grow (conditions.Test test ∷ more) made demanded found e =
      let rest = memberships_grow more made demanded found e in (rest.0, (tt, rest.1))

-- ---- demanded of all other terms

module _ (names : List Name) (demanded bound : Bound) where
  term_demanded : (term : TreeTerm) (found : Term Known × Kind) → term_in names demanded bound term ≡ Ok found
      → OfVariable (IsDemanded demanded) term
  term_demanded (terms.Value value) found e = tt
  term_demanded (terms.Variable variable) found e =
      let w = found_of (there (demanded variable.name) (Unbound variable.place)) _ found e in
      (w.0, there_of (demanded variable.name) (Unbound variable.place) w.0 w.1)

  pub items_demanded : (all : List EntangledItem) (offer out : Offer)
      → offer_from names demanded bound offer all ≡ Ok out → OfItems (IsDemanded demanded) all
  unfolding item_in
  items_demanded [] offer out e = tt
  items_demanded (item ∷ more) offer out e =
      let w = found_of (item_in names demanded bound offer item) _ out e in
      let t = found_of (term_in names demanded bound item.term) _ w.0 w.1 in
      (term_demanded item.term t.0 t.1, items_demanded more w.0 out w.2)

  terms_demanded : (all : List TreeTerm) (made out : List (Term Known))
      → atom_from names demanded bound made all ≡ Ok out → OfVariables (IsDemanded demanded) all
  terms_demanded [] made out e = tt
  terms_demanded (term ∷ more) made out e =
      let w = found_of (term_in names demanded bound term) _ out e in
      (term_demanded term w.0 w.1, terms_demanded more (made ++ w.0.0 ∷ []) out w.2)

  pub others_demanded : (all : List Condition) (posts : List (Atom Known)) (tests : List (Test (Term Known)))
      → (found : List (Atom Known) × List (Test (Term Known)))
      → others_from names demanded bound posts tests all ≡ Ok found
      → AllByRecursion (OfOther (IsDemanded demanded)) all
  unfolding post_in test_in
  others_demanded [] posts tests found e = tt
  others_demanded (conditions.InSelect tuple select ∷ more) posts tests found e =
      (tt, others_demanded more posts tests found e)
  others_demanded (conditions.InAnswer tuple relation ∷ more) posts tests found e =
      let w = found_of (post_in names demanded bound tuple relation) _ found e in
      let t = found_of (atom_from names demanded bound [] tuple.terms) _ w.0 w.1 in
      (terms_demanded tuple.terms [] t.0 t.1, others_demanded more (posts ++ w.0 ∷ []) tests found w.2)
  others_demanded (conditions.Test test ∷ more) posts tests found e =
      let w = found_of (test_in (terms_in names demanded bound) test) _ found e in
      let left = found_of (term_in names demanded bound test.left) _ w.0 w.1 in
      let right = found_of (term_in names demanded bound test.right) _ w.0 left.2 in (
        (term_demanded test.left left.0 left.1, (term_demanded test.right right.0 right.1, tt)),
        others_demanded more posts (tests ++ w.0 ∷ []) found w.2,
      )

-- ---- under a grounding

module _ (law : ItemLaw) (schemas : List TableSchema) (bound : Bound) (environment : Environment) (tables : Tables)
    (have : HasKinds bound environment) (kinded : AreKinded schemas tables) (names : List Name) (valuation : Valuation)
  where
    abbrev worth : Term Known → Value
    worth = term_worth (known_worth environment) valuation

    abbrev kind_there : Name → Kind
    kind_there name = kind_of (slice_index_or valuation (index_of names name) no_value)

    -- each variable that is demanded has a value of the kind
    abbrev IsMet : Bound → Type 0
    IsMet demanded = (name : Name) (kind : Kind) → demanded name ≡ Some kind → kind_there name ≡ kind

    met_with : (demanded : Bound) (name : Name) (kind : Kind) → IsMet demanded → kind_there name ≡ kind
        → IsMet (with_kind demanded name kind)
    met_with demanded name kind met is other wanted e =
        elim (same_name name other) as (λ b. same_name name other ≡ b
        → (if b then Some kind else demanded other) ≡ Some wanted → kind_there other ≡ wanted) [
          | true ↦ λ same here. sym (ap kind_there (equal_names name other same)) ∙ is ∙ one_kind kind wanted here
          | false ↦ λ _ before. met other wanted before
        ] refl e
      where
        one_kind : (x y : Kind) → Some x ≡ Some y → x ≡ y
        one_kind x y e = cc

    demand_met : (demanded : Bound) (variable : Identifier) (kind : Kind) (earlier : Option Kind)
        → (found : Term Known × Bound) → demanded_in names demanded variable kind earlier ≡ Ok found
        → kind_of (worth found.0) ≡ kind → IsMet demanded → IsMet found.1
    demand_met demanded variable kind None found e =
        subst (λ (f : Term Known × Bound). kind_of (worth f.0) ≡ kind → IsMet demanded → IsMet f.1)
        (one_answer (resolved.Variable (index_of names variable.name), with_kind demanded variable.name kind) found e)
        (λ is met. met_with demanded variable.name kind met is)
    demand_met demanded variable kind (Some earlier) found e =
        let kept = demand_given (same_kind earlier kind) (WrongKind variable.place) _ found e in
        subst (λ (f : Term Known × Bound). kind_of (worth f.0) ≡ kind → IsMet demanded → IsMet f.1)
        (one_answer (resolved.Variable (index_of names variable.name), demanded) found kept.1) (λ is met. met)

    member_met : (demanded : Bound) (kind : Kind) (term : TreeTerm) (found : Term Known × Bound)
        → member_in names bound demanded kind term ≡ Ok found → kind_of (worth found.0) ≡ kind → IsMet demanded
        → IsMet found.1
    member_met demanded kind (terms.Value value) found e =
        let w = found_of (kind_in (values_in bound) kind value) _ found e in
        subst (λ (f : Term Known × Bound). kind_of (worth f.0) ≡ kind → IsMet demanded → IsMet f.1)
        (one_answer (resolved.Known w.0, demanded) found w.2) (λ is met. met)
    member_met demanded kind (terms.Variable variable) found e =
        demand_met demanded variable kind (demanded variable.name) found e

    -- what was made before, and what is made of the rest
    abbrev MembersMet : List Kind → Bound → List (Term Known) → List (Term Known) × Bound → Type 0
    MembersMet kinds demanded made found =
        (new : List (Term Known)) × (found.0 ≡ made ++ new)
        × (kinds_of (map worth new) ≡ kinds → IsMet demanded → IsMet found.1)

    members_met : (kinds : List Kind) (all : List TreeTerm) (made : List (Term Known)) (demanded : Bound)
        → (found : List (Term Known) × Bound) → length all ≡ length kinds
        → members_from names bound made demanded kinds all ≡ Ok found → MembersMet kinds demanded made found
    members_met [] [] made demanded found l e =
        subst (MembersMet [] demanded made) (one_answer (made, demanded) found e)
        ([], sym (append-nil made), (λ is met. met))
    members_met [] (term ∷ more) made demanded found l e = absurd (omega arith)
    members_met (kind ∷ kinds) [] made demanded found l e = absurd (omega arith)
    members_met (kind ∷ kinds) (term ∷ more) made demanded found l e =
        let w = found_of (member_in names bound demanded kind term) _ found e in
        let rest = members_met kinds more (made ++ w.0.0 ∷ []) w.0.1 found (omega arith) w.2 in (
          w.0.0 ∷ rest.0,
          rest.1 ∙ append_assoc made (w.0.0 ∷ []) rest.0,
          (λ is met.
              let both = same_heads (kind_of (worth w.0.0)) kind (kinds_of (map worth rest.0)) kinds is in
              rest.2 both.1 (member_met demanded kind term w.0 w.1 both.0 met)),
        )

    membership_met : (demanded : Bound) (tuple : Tuple) (select : TreeSelect) (found : Membership Known × Bound)
        → membership_in schemas bound names demanded tuple select ≡ Ok found
        → membership_holds (known_worth environment) tables valuation found.0 ≡ true → IsMet demanded → IsMet found.1
    unfolding membership_in
    membership_met demanded tuple select found e =
        let inner = found_of (select_in schemas bound select) _ found e in
        let kept = demand_given (length tuple.terms == length inner.0.1) (Arity tuple.place) _ found inner.2 in
        let members = found_of (members_from names bound [] demanded inner.0.1 tuple.terms) _ found kept.1 in
        let met = members_met inner.0.1 tuple.terms [] demanded members.0 (eqb-true _ _ kept.0) members.1 in
        subst (λ (f : Membership Known × Bound). membership_holds (known_worth environment) tables valuation f.0 ≡ true
        → IsMet demanded → IsMet f.1)
        (one_answer (record { terms = members.0.0; select = inner.0.0 }, members.0.1) found members.2)
        (λ held. met.2 (sym (ap (λ (all : List (Term Known)). kinds_of (map worth all)) met.1)
        ∙ select_kinds law schemas bound environment tables have kinded select inner.0 inner.1
        (map worth members.0.0) held))

    abbrev holds_here : Membership Known → Bool
    holds_here = membership_holds (known_worth environment) tables valuation

    abbrev MembershipsMet : Bound → List (Membership Known) → List (Membership Known) × Bound → Type 0
    MembershipsMet demanded made found =
        (new : List (Membership Known)) × (found.0 ≡ made ++ new)
        × (list_all holds_here new ≡ true → IsMet demanded → IsMet found.1)

    memberships_met : (all : List Condition) (made : List (Membership Known)) (demanded : Bound)
        → (found : List (Membership Known) × Bound)
        → memberships_from schemas bound names made demanded all ≡ Ok found → MembershipsMet demanded made found
    memberships_met [] made demanded found e =
        subst (MembershipsMet demanded made) (one_answer (made, demanded) found e)
        ([], sym (append-nil made), (λ held met. met))
    memberships_met (conditions.InSelect tuple select ∷ more) made demanded found e =
        let w = found_of (membership_in schemas bound names demanded tuple select) _ found e in
        let rest = memberships_met more (made ++ w.0.0 ∷ []) w.0.1 found w.2 in (
          w.0.0 ∷ rest.0,
          rest.1 ∙ append_assoc made (w.0.0 ∷ []) rest.0,
          (λ held met.
              let both = and_parts (holds_here w.0.0) (list_all holds_here rest.0) held in
              rest.2 both.1 (membership_met demanded tuple select w.0 w.1 both.0 met)),
        )
    memberships_met (conditions.InAnswer tuple relation ∷ more) made demanded found e =
        memberships_met more made demanded found e
    memberships_met (conditions.Test test ∷ more) made demanded found e = memberships_met more made demanded found e

-- ---- the values side by side with the variables

differs : (first name : Name) (names : List Name) → AllByRecursion (λ other. same_name first other ≡ false) names
    → is_among names name ≡ true → same_name first name ≡ false
differs first name [] h among = cc
differs first name (other ∷ names) h among =
    elim (same_name other name) as (λ b. same_name other name ≡ b → (b || is_among names name) ≡ true
    → same_name first name ≡ false) [
      | true ↦ λ same _. sym (ap (same_name first) (equal_names other name same)) ∙ h.0
      | false ↦ λ _ later. differs first name names h.1 later
    ] refl among

side_by_side : (demanded : Bound) (names : List Name) (valuation : Valuation) → length valuation ≡ length names
    → IsDistinct same_name names → AllByRecursion (IsDemanded demanded) names
    → ((name : Name) (kind : Kind) → is_among names name ≡ true → demanded name ≡ Some kind
    → kind_of (slice_index_or valuation (index_of names name) no_value) ≡ kind)
    → kinds_of valuation ≡ kinds_demanded demanded names
unfolding IsDistinct
side_by_side demanded [] [] l apart all met = refl
side_by_side demanded [] (value ∷ valuation) l apart all met = absurd (omega arith)
side_by_side demanded (first ∷ names) [] l apart all met = absurd (omega arith)
side_by_side demanded (first ∷ names) (value ∷ valuation) l apart all met =
    let itself = name_itself first in
    let at : ℕ → Kind = λ number. kind_of (slice_index_or (value ∷ valuation) number no_value) in
    let here : kind_of value ≡ unwrap_or (demanded first) Int =
    sym (ap (λ (b : Bool). at (if b then 0 else suc (index_of names first))) itself)
    ∙ met first all.0.0 (ap (λ b. b || is_among names first) itself) all.0.1
    ∙ sym (ap (λ (kind : Option Kind). unwrap_or kind Int) all.0.1) in
    let rest : kinds_of valuation ≡ kinds_demanded demanded names =
    side_by_side demanded names valuation (omega arith) apart.1 all.1 (λ name kind among is.
    let other = differs first name names apart.0 among in
    sym (ap (λ (b : Bool). at (if b then 0 else suc (index_of names name))) other)
    ∙ met name kind (ap (λ b. b || is_among names name) other ∙ among) is) in
    λ i. here i ∷ rest i

pub grounding_kinds : ItemLaw → (schemas : List TableSchema) (bound : Bound) (entangled : TreeEntangled)
    → (found : Entangled Known × Bound) (environment : Environment) (tables : Tables) (valuation : Valuation)
    → entangled_in schemas bound entangled ≡ Ok found → AreKinded schemas tables → HasKinds bound environment
    → is_form_grounding (known_worth environment) tables found.0 valuation ≡ true
    → kinds_of valuation ≡ found.0.variables
unfolding entangled_in
grounding_kinds law schemas bound entangled found environment tables valuation e kinded have =
    let names = variables_of entangled in
    let body = found_of (memberships_from schemas bound names [] none_bound entangled.conditions) _ found e in
    let offer = found_of (offer_from names body.0.1 bound no_offer entangled.items) _ found body.2 in
    let heads = found_of (heads_from offer.0.terms [] [] entangled.relations) _ found offer.2 in
    let others = found_of (others_from names body.0.1 bound [] [] entangled.conditions) _ found heads.2 in
    let demanded : Bound = body.0.1 in
    let grown = memberships_grow schemas bound names entangled.conditions [] none_bound body.0 body.1 in
    let all : AllByRecursion (IsDemanded demanded) names =
    variables_all (IsDemanded demanded) entangled
    (items_demanded names demanded bound entangled.items no_offer offer.0 offer.1)
    (of_both (IsDemanded demanded) entangled.conditions grown.1
    (others_demanded names demanded bound entangled.conditions [] [] others.0 others.1)) in
    let met = memberships_met law schemas bound environment tables have kinded names valuation entangled.conditions []
    none_bound body.0 body.1 in
    subst (λ (f : Entangled Known × Bound). is_form_grounding (known_worth environment) tables f.0 valuation ≡ true
    → kinds_of valuation ≡ f.0.variables) (one_answer _ found others.2)
    (λ held.
    let parts = and_parts (length valuation == length (kinds_demanded demanded names)) _ held in
    let holding = and_parts (list_all (membership_holds (known_worth environment) tables valuation) body.0.0) _ parts.1
    in
    let many : length valuation ≡ length names =
    eqb-true _ _ parts.0 ∙ length-map names (λ name. unwrap_or (demanded name) Int) in
    let values = met.2 (ap (list_all (membership_holds (known_worth environment) tables valuation)) (sym met.1)
    ∙ holding.0) (λ name kind is. cc) in
    side_by_side demanded names valuation many (variables_once entangled) all (λ name kind _ is. values name kind is))
