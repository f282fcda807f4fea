-- The fault of an entangled statement that is answered is the first of all.
use Rattle.std.proofs.Common.{◌≡◌, Bool, true, false, not, ◌&&◌, ◌||◌, List, [], ◌∷◌, ◌++◌, length, map, Option, Some}
use Rattle.std.proofs.Common.{None}
use Rattle.std.proofs.Common.{Result, Ok, refl, sym, ap, subst, ◌∙◌, arith}
use Rattle.std.specs.Prelude.{is_some, is_none, if◌then◌else◌, ◌==◌}
use Rattle.std.specs.List.{flat_map}
use Rattle.std.proofs.lemmas.Bool.{eqb-true}
use Rattle.std.proofs.lemmas.List.{append-nil, append_assoc, map-append, length-map}
use Rattle.std.proofs.lemmas.List.Folds.{list_any-append}
use Rattle.std.proofs.lemmas.Simd.{map-map}
use Rattle.std.proofs.Math.Bool.{or_assoc, or-false}
use Rattle.ent_value.specs.declared.value.Kind.{Kind}
use Rattle.ent_value.specs.Kinds.{same_kind}
use Rattle.ent_tree.specs.declared.entangled.Condition.{Condition}
use Rattle.ent_tree.specs.declared.entangled.Condition.TheVariants as conditions
use Rattle.ent_tree.specs.declared.entangled.Entangled.{Entangled as TreeEntangled}
use Rattle.ent_tree.specs.declared.entangled.EntangledItem.{EntangledItem}
use Rattle.ent_tree.specs.declared.entangled.Term.{Term as TreeTerm}
use Rattle.ent_tree.specs.declared.entangled.Term.TheVariants as terms
use Rattle.ent_tree.specs.declared.entangled.Tuple.{Tuple}
use Rattle.ent_tree.specs.declared.operand.Identifier.{Identifier}
use Rattle.ent_tree.specs.declared.operand.Operand.{Operand as TreeOperand}
use Rattle.ent_tree.specs.declared.operand.Test.{Test}
use Rattle.ent_tree.specs.declared.select.Items.{Items}
use Rattle.ent_tree.specs.declared.select.Items.TheVariants as items
use Rattle.ent_tree.specs.declared.select.Select.{Select as TreeSelect}
use Rattle.ent_tree.specs.Places.{term_place}
use Rattle.ent_semantics.specs.Database.{Name, same_name, is_among, index_of}
use Rattle.ent_semantics.specs.declared.entangled.Atom.{Atom}
use Rattle.ent_semantics.specs.declared.entangled.Membership.{Membership}
use Rattle.ent_semantics.specs.declared.entangled.Term.{Term}
use Rattle.ent_semantics.specs.declared.entangled.Term.TheVariants as resolved
use Rattle.ent_semantics.specs.declared.operand.Known.{Known}
use Rattle.ent_semantics.specs.declared.statement.Select.{Select}
use Rattle.ent_semantics.specs.Entangled.{term_variables}
use Rattle.ent_semantics.specs.Names.{equal_names}
use Rattle.ent_form.specs.declared.catalogue.TableSchema.{TableSchema}
use Rattle.ent_form.specs.declared.fault.FormFault.{FormFault}
use Rattle.ent_form.specs.declared.fault.FormFault.TheVariants.{Arity, WrongKind, Unbound, Repeated}
use Rattle.ent_form.specs.Entangled.{noted, noted_terms, noted_items, variables_of, demanded_in, member_in}
use Rattle.ent_form.specs.Entangled.{members_from, membership_in, memberships_from, term_in, terms_in}
use Rattle.ent_form.specs.Entangled.{Offer}
use Rattle.ent_form.specs.Entangled.{no_offer, with_term, with_bind, bind_in, item_in, offer_from, heads_from}
use Rattle.ent_form.specs.Entangled.{atom_from}
use Rattle.ent_form.specs.Entangled.{post_in, others_from, entangled_in}
use Rattle.ent_form.specs.Kinds.{Bound, none_bound, with_kind}
use Rattle.ent_form.specs.Lookup.{value_in, values_in, operand_in, operands_in, kind_in, test_in}
use Rattle.ent_form.specs.Ordinary.{tests_in, Shown, with_item, items_from, all_shown, items_in, select_in}
use Rattle.ent_form.specs.Scope.{Scope, sources_in}
use Rattle.ent_form.specs.Steps.{there, demand}
use Rattle.ent_form.specs.AllFaults.{fault_of, head_of, faults_where, kinds_faults, repeated_names}
use Rattle.ent_form.specs.AllFaults.{value_faults, values, View, operand_kind, wanted_faults, select_faults}
use Rattle.ent_form.specs.EntangledFaults.{shown_kinds, select_kinds, demanding, demanding_all, demanding_unless}
use Rattle.ent_form.specs.EntangledFaults.{demanded_from, member_faults, members_faults, membership_faults}
use Rattle.ent_form.specs.EntangledFaults.{memberships_faults, body_variables, term_faults, terms_faults}
use Rattle.ent_form.specs.EntangledFaults.{term_kind, binds_faults, taking, offer_faults, others_faults}
use Rattle.ent_form.specs.EntangledFaults.{entangled_faults}
use Rattle.ent_form.proofs.Heads.{one_answer, found_of, there_of, demand_of, view_in, value_head, value_known}
use Rattle.ent_form.proofs.Heads.{values_agree}
use Rattle.ent_form.proofs.Heads.{wanted_head, operand_known, view_seen, select_head}
use Rattle.ent_form.proofs.FaultSteps.{head_then, head_last, head_unless, head_there, head_demand, head_new}
use Rattle.ent_form.proofs.FaultSteps.{head_demanded}

-- ---- the kinds of a sub-select's items

-- what ends well has no fault
none_counted : {A : Type 0} (found : Result A FormFault) (faults : List FormFault) (x : A) → found ≡ Ok x
    → fault_of found ≡ head_of faults → faults ≡ []
none_counted found [] x is e = refl
none_counted found (fault ∷ more) x is e =
    let none : fault_of found ≡ None = ap fault_of is in
    let some : None ≡ Some fault = sym none ∙ e in
    cc

module _ (scope : Scope) (bound : Bound) where
  listed_kinds : (listed : List TreeOperand) (shown out : Shown)
      → items_from (operands_in scope bound) shown listed ≡ Ok out
      → map Some out.1 ≡ map Some shown.1 ++ map (operand_kind (view_in scope) bound) listed
  listed_kinds [] shown out e =
      ap (λ (s : Shown). map (λ (kind : Kind). Some kind) s.1) (sym (one_answer shown out e))
      ∙ sym (append-nil (map (λ (kind : Kind). Some kind) shown.1))
  listed_kinds (item ∷ more) shown out e =
      let w = found_of (operand_in scope bound item) _ out e in
      let kind = operand_kind (view_in scope) bound in
      listed_kinds more (with_item shown w.0) out w.2
      ∙ ap (λ (kinds : List (Option Kind)). kinds ++ map kind more)
      (map-append (λ (kind : Kind). Some kind) shown.1 (w.0.1 ∷ []))
      ∙ append_assoc (map (λ (kind : Kind). Some kind) shown.1) (Some w.0.1 ∷ []) (map kind more)
      ∙ ap (λ (known : Option Kind). map (λ (kind : Kind). Some kind) shown.1 ++ known ∷ map kind more)
      (sym (operand_known scope bound item w.0 w.1))

  items_known : (all : Items) (out : Shown) → items_in scope bound all ≡ Ok out
      → shown_kinds (view_in scope) bound all ≡ map Some out.1
  items_known items.All out e =
      sym (map-map (λ (kind : Kind). Some kind) (λ column. column.kind) scope.columns)
      ∙ ap (λ (s : Shown). map (λ (kind : Kind). Some kind) s.1) (one_answer (all_shown scope) out e)
  items_known (items.Listed listed) out e = sym (listed_kinds listed ([], []) out e)

select_known : (tables : List TableSchema) (bound : Bound) (select : TreeSelect) (found : Select Known × List Kind)
    → select_in tables bound select ≡ Ok found → select_kinds tables bound select ≡ map Some found.1
unfolding select_in
select_known tables bound select found e =
    let scope = found_of (sources_in tables select.sources) _ found e in
    let tests = found_of (tests_in scope.0 bound select.tests) _ found scope.2 in
    let shown = found_of (items_in scope.0 bound select.items) _ found tests.2 in
    ap (λ (view : View). shown_kinds view bound select.items) (sym (view_seen tables select.sources scope.0 scope.1))
    ∙ items_known scope.0 bound select.items shown.0 shown.1
    ∙ ap (λ (f : Select Known × List Kind). map (λ (kind : Kind). Some kind) f.1) (one_answer _ found shown.2)

-- ---- the terms of a tuple

module _ (names : List Name) (bound : Bound) where
  demanded_head : (demanded : Bound) (variable : Identifier) (kind : Kind) (earlier : Option Kind)
      → fault_of (demanded_in names demanded variable kind earlier)
      ≡ head_of (kinds_faults earlier (Some kind) (WrongKind variable.place))
  demanded_head demanded variable kind None = refl
  demanded_head demanded variable kind (Some earlier) =
      head_demanded (same_kind earlier kind) (WrongKind variable.place) _

  member_head : (demanded : Bound) (kind : Kind) (term : TreeTerm)
      → fault_of (member_in names bound demanded kind term) ≡ head_of (member_faults bound demanded (Some kind) term)
  member_head demanded kind (terms.Value value) =
      head_last (kind_in (values_in bound) kind value) _ (wanted_faults (values bound) kind value)
      (wanted_head (values_in bound) (values bound) (values_agree bound) kind value)
  member_head demanded kind (terms.Variable variable) = demanded_head demanded variable kind (demanded variable.name)

  demanded_known : (demanded : Bound) (variable : Identifier) (kind : Kind) (earlier : Option Kind)
      → (found : Term Known × Bound) → demanded_in names demanded variable kind earlier ≡ Ok found
      → found.1 ≡ (if is_some earlier then demanded else with_kind demanded variable.name kind)
  demanded_known demanded variable kind None found e = ap (λ (f : Term Known × Bound). f.1) (sym (one_answer _ found e))
  demanded_known demanded variable kind (Some earlier) found e =
      ap (λ (f : Term Known × Bound). f.1)
      (sym (one_answer _ found (demand_of (same_kind earlier kind) (WrongKind variable.place) _ found e)))

  member_known : (demanded : Bound) (kind : Kind) (term : TreeTerm) (found : Term Known × Bound)
      → member_in names bound demanded kind term ≡ Ok found → found.1 ≡ demanding demanded (Some kind) term
  member_known demanded kind (terms.Value value) found e =
      let w = found_of (kind_in (values_in bound) kind value) _ found e in
      ap (λ (f : Term Known × Bound). f.1) (sym (one_answer (resolved.Known w.0, demanded) found w.2))
  member_known demanded kind (terms.Variable variable) found e =
      demanded_known demanded variable kind (demanded variable.name) found e

  members_head : (kinds : List Kind) (all : List TreeTerm) (made : List (Term Known)) (demanded : Bound)
      → fault_of (members_from names bound made demanded kinds all)
      ≡ head_of (members_faults bound demanded (map Some kinds) all)
  members_head [] all made demanded = refl
  members_head (kind ∷ kinds) [] made demanded = refl
  members_head (kind ∷ kinds) (term ∷ more) made demanded =
      head_then (member_in names bound demanded kind term) _ (member_faults bound demanded (Some kind) term) _
      (member_head demanded kind term) (λ found is.
      members_head kinds more (made ++ found.0 ∷ []) found.1
      ∙ ap (λ (next : Bound). head_of (members_faults bound next (map (λ (kind : Kind). Some kind) kinds) more))
      (member_known demanded kind term found is))

  members_known : (kinds : List Kind) (all : List TreeTerm) (made : List (Term Known)) (demanded : Bound)
      → (found : List (Term Known) × Bound) → members_from names bound made demanded kinds all ≡ Ok found
      → found.1 ≡ demanding_all demanded (map Some kinds) all
  members_known [] all made demanded found e =
      ap (λ (f : List (Term Known) × Bound). f.1) (sym (one_answer (made, demanded) found e))
  members_known (kind ∷ kinds) [] made demanded found e =
      ap (λ (f : List (Term Known) × Bound). f.1) (sym (one_answer (made, demanded) found e))
  members_known (kind ∷ kinds) (term ∷ more) made demanded found e =
      let w = found_of (member_in names bound demanded kind term) _ found e in
      members_known kinds more (made ++ w.0.0 ∷ []) w.0.1 found w.2
      ∙ ap (λ (next : Bound). demanding_all next (map (λ (kind : Kind). Some kind) kinds) more)
      (member_known demanded kind term w.0 w.1)

-- ---- which variables are demanded

-- a name is among those of a term's variable or is demanded before
demanding_there : (demanded : Bound) (kind : Kind) (term : TreeTerm) (name : Name)
    → is_some (demanding demanded (Some kind) term name)
    ≡ (is_some (demanded name) || is_among (term_variables term) name)
demanding_there demanded kind (terms.Value value) name = sym (or-false (is_some (demanded name)))
demanding_there demanded kind (terms.Variable variable) name = by (demanded variable.name) refl
  where
    within : (b : Bool) → same_name variable.name name ≡ b → (earlier : Kind) → demanded variable.name ≡ Some earlier
        → is_some (demanded name) ≡ (is_some (demanded name) || (b || false))
    within true same earlier is =
        let there : is_some (demanded name) ≡ true =
        ap (λ (n : Name). is_some (demanded n)) (sym (equal_names variable.name name same)) ∙ ap is_some is in
        there ∙ sym (ap (λ b. b || true) there)
    within false same earlier is = sym (or-false (is_some (demanded name)))

    without : (b : Bool)
        → is_some (if b then Some kind else demanded name) ≡ (is_some (demanded name) || (b || false))
    without true = sym (true_behind (is_some (demanded name)))
      where
        true_behind : (b : Bool) → (b || true) ≡ true
        true_behind true = refl
        true_behind false = refl
    without false = sym (or-false (is_some (demanded name)))

    by : (earlier : Option Kind) → demanded variable.name ≡ earlier
        → is_some ((if is_some earlier then demanded else with_kind demanded variable.name kind) name)
        ≡ (is_some (demanded name) || (same_name variable.name name || false))
    by None is = without (same_name variable.name name)
    by (Some earlier) is = within (same_name variable.name name) refl earlier is

demanding_all_there : (kinds : List Kind) (all : List TreeTerm) (demanded : Bound) (name : Name)
    → length all ≡ length kinds
    → is_some (demanding_all demanded (map Some kinds) all name)
    ≡ (is_some (demanded name) || is_among (flat_map term_variables all) name)
demanding_all_there [] [] demanded name l = sym (or-false (is_some (demanded name)))
demanding_all_there [] (term ∷ more) demanded name l = absurd (omega arith)
demanding_all_there (kind ∷ kinds) [] demanded name l = absurd (omega arith)
demanding_all_there (kind ∷ kinds) (term ∷ more) demanded name l =
    demanding_all_there kinds more (demanding demanded (Some kind) term) name (omega arith)
    ∙ ap (λ b. b || is_among (flat_map term_variables more) name) (demanding_there demanded kind term name)
    ∙ or_assoc (is_some (demanded name)) (is_among (term_variables term) name)
    (is_among (flat_map term_variables more) name)
    ∙ ap (λ b. is_some (demanded name) || b)
    (sym (list_any-append (λ other. same_name other name) (term_variables term) (flat_map term_variables more)))

-- ---- sub-selects

module _ (tables : List TableSchema) (bound : Bound) (names : List Name) where
  -- a sub-select that ended well
  record Well (demanded : Bound) (tuple : Tuple) (select : TreeSelect) (found : Membership Known × Bound) : Type 0 where
    pub demands : found.1 ≡ demanding_unless (select_faults tables bound select) demanded
        (select_kinds tables bound select) tuple.terms
    pub stand : (name : Name)
        → is_some (found.1 name) ≡ (is_some (demanded name) || is_among (flat_map term_variables tuple.terms) name)

  membership_head : (demanded : Bound) (tuple : Tuple) (select : TreeSelect)
      → fault_of (membership_in tables bound names demanded tuple select)
      ≡ head_of (membership_faults tables bound demanded tuple select)
  unfolding membership_in
  membership_head demanded tuple select =
      head_unless (select_in tables bound select) _ (select_faults tables bound select) _
      (select_head tables bound select)
      (λ inner is.
      head_demand (length tuple.terms == length inner.1) (Arity tuple.place) _
      (members_faults bound demanded (map (λ (kind : Kind). Some kind) inner.1) tuple.terms)
      (head_last (members_from names bound [] demanded inner.1 tuple.terms) _ _
      (members_head names bound inner.1 tuple.terms [] demanded))
      ∙ (λ i. head_of (faults_where
      (not (length tuple.terms == sym (length-map inner.1 (λ (kind : Kind). Some kind)) i))
      (Arity tuple.place) ++ members_faults bound demanded (map (λ (kind : Kind). Some kind) inner.1) tuple.terms))
      ∙ ap (λ (kinds : List (Option Kind)). head_of (faults_where (not (length tuple.terms == length kinds))
      (Arity tuple.place) ++ members_faults bound demanded kinds tuple.terms))
      (sym (select_known tables bound select inner is)))

  membership_well : (demanded : Bound) (tuple : Tuple) (select : TreeSelect) (found : Membership Known × Bound)
      → membership_in tables bound names demanded tuple select ≡ Ok found → Well demanded tuple select found
  unfolding membership_in
  membership_well demanded tuple select found e =
      let inner = found_of (select_in tables bound select) _ found e in
      let many = demanded_of (length tuple.terms == length inner.0.1) (Arity tuple.place) _ found inner.2 in
      let members = found_of (members_from names bound [] demanded inner.0.1 tuple.terms) _ found many.1 in
      let known = members_known names bound inner.0.1 tuple.terms [] demanded members.0 members.1 in
      let none = none_counted (select_in tables bound select) (select_faults tables bound select) inner.0 inner.1
      (select_head tables bound select) in
      subst (Well demanded tuple select)
      (one_answer (record { terms = members.0.0; select = inner.0.0 }, members.0.1) found members.2)
      (record {
        demands =
            known
            ∙ ap (λ (kinds : List (Option Kind)). demanding_all demanded kinds tuple.terms)
            (sym (select_known tables bound select inner.0 inner.1))
            ∙ ap (λ (faults : List FormFault). demanding_unless faults demanded (select_kinds tables bound select)
            tuple.terms) (sym none);
        stand = λ name. ap (λ (demands : Bound). is_some (demands name)) known
            ∙ demanding_all_there inner.0.1 tuple.terms demanded name (eqb-true _ _ many.0);
      })
    where
      demanded_of : {A : Type 0} (test : Bool) (fault : FormFault) (more : Result A FormFault) (x : A)
          → demand test fault more ≡ Ok x → (test ≡ true) × (more ≡ Ok x)
      demanded_of true fault more x e = (refl, e)
      demanded_of false fault more x e = cc

  memberships_head : (all : List Condition) (made : List (Membership Known)) (demanded : Bound)
      → fault_of (memberships_from tables bound names made demanded all)
      ≡ head_of (memberships_faults tables bound demanded all)
  memberships_head [] made demanded = refl
  memberships_head (conditions.InSelect tuple select ∷ more) made demanded =
      head_then (membership_in tables bound names demanded tuple select) _
      (membership_faults tables bound demanded tuple select) _ (membership_head demanded tuple select) (λ found is.
      memberships_head more (made ++ found.0 ∷ []) found.1
      ∙ ap (λ (next : Bound). head_of (memberships_faults tables bound next more))
      (membership_well demanded tuple select found is).demands)
  memberships_head (conditions.InAnswer tuple relation ∷ more) made demanded = memberships_head more made demanded
  memberships_head (conditions.Test test ∷ more) made demanded = memberships_head more made demanded

  pub memberships_known : (all : List Condition) (made : List (Membership Known)) (demanded : Bound)
      → (found : List (Membership Known) × Bound)
      → memberships_from tables bound names made demanded all ≡ Ok found
      → found.1 ≡ demanded_from tables bound demanded all
  memberships_known [] made demanded found e =
      ap (λ (f : List (Membership Known) × Bound). f.1) (sym (one_answer (made, demanded) found e))
  memberships_known (conditions.InSelect tuple select ∷ more) made demanded found e =
      let w = found_of (membership_in tables bound names demanded tuple select) _ found e in
      memberships_known more (made ++ w.0.0 ∷ []) w.0.1 found w.2
      ∙ ap (λ (next : Bound). demanded_from tables bound next more)
      (membership_well demanded tuple select w.0 w.1).demands
  memberships_known (conditions.InAnswer tuple relation ∷ more) made demanded found e =
      memberships_known more made demanded found e
  memberships_known (conditions.Test test ∷ more) made demanded found e =
      memberships_known more made demanded found e

  pub memberships_there : (all : List Condition) (made : List (Membership Known)) (demanded : Bound)
      → (found : List (Membership Known) × Bound)
      → memberships_from tables bound names made demanded all ≡ Ok found → (name : Name)
      → is_some (found.1 name) ≡ (is_some (demanded name) || is_among (body_variables all) name)
  memberships_there [] made demanded found e name =
      ap (λ (f : List (Membership Known) × Bound). is_some (f.1 name)) (sym (one_answer (made, demanded) found e))
      ∙ sym (or-false (is_some (demanded name)))
  memberships_there (conditions.InSelect tuple select ∷ more) made demanded found e name =
      let w = found_of (membership_in tables bound names demanded tuple select) _ found e in
      let here = flat_map term_variables tuple.terms in
      memberships_there more (made ++ w.0.0 ∷ []) w.0.1 found w.2 name
      ∙ ap (λ b. b || is_among (body_variables more) name) ((membership_well demanded tuple select w.0 w.1).stand name)
      ∙ or_assoc (is_some (demanded name)) (is_among here name) (is_among (body_variables more) name)
      ∙ ap (λ b. is_some (demanded name) || b)
      (sym (list_any-append (λ other. same_name other name) here (body_variables more)))
  memberships_there (conditions.InAnswer tuple relation ∷ more) made demanded found e name =
      memberships_there more made demanded found e name
  memberships_there (conditions.Test test ∷ more) made demanded found e name =
      memberships_there more made demanded found e name

-- ---- all other terms

module _ (names : List Name) (demanded bound : Bound) (body : List Name)
    (agree : (name : Name) → is_some (demanded name) ≡ is_among body name) where
  -- each variable that came earlier is demanded
  abbrev Within : List Name → Type 0
  Within earlier = (name : Name) → is_among earlier name ≡ true → is_among body name ≡ true

  missing : (name : Name) (earlier : List Name) → Within earlier
      → is_none (demanded name) ≡ (not (is_among body name) && not (is_among earlier name))
  missing name earlier within =
      by (demanded name) (is_among body name) (is_among earlier name) (agree name) (within name)
    where
      by : (there : Option Kind) (among before : Bool) → is_some there ≡ among → (before ≡ true → among ≡ true)
          → is_none there ≡ (not among && not before)
      by None true before e h = cc
      by None false true e h = let no : false ≡ true = h refl in cc
      by None false false e h = refl
      by (Some kind) true before e h = refl
      by (Some kind) false before e h = cc

  term_head : (earlier : List Name) (term : TreeTerm) → Within earlier
      → fault_of (term_in names demanded bound term) ≡ head_of (term_faults body bound earlier term)
  term_head earlier (terms.Value value) within =
      head_last (value_in bound value) _ (value_faults bound value) (value_head bound value)
  term_head earlier (terms.Variable variable) within =
      head_there (demanded variable.name) (Unbound variable.place) _ [] (λ kind _. refl)
      ∙ ap head_of (append-nil (faults_where (is_none (demanded variable.name)) (Unbound variable.place)))
      ∙ ap (λ b. head_of (faults_where b (Unbound variable.place))) (missing variable.name earlier within)

  pub term_known : (term : TreeTerm) (found : Term Known × Kind) → term_in names demanded bound term ≡ Ok found
      → term_kind demanded bound term ≡ Some found.1
  term_known (terms.Value value) found e =
      let w = found_of (value_in bound value) _ found e in
      value_known bound value w.0 w.1
      ∙ ap (λ (f : Term Known × Kind). Some f.1) (one_answer (resolved.Known w.0.0, w.0.1) found w.2)
  term_known (terms.Variable variable) found e =
      let w = found_of (there (demanded variable.name) (Unbound variable.place)) _ found e in
      there_of (demanded variable.name) (Unbound variable.place) w.0 w.1
      ∙ ap (λ (f : Term Known × Kind). Some f.1)
      (one_answer (resolved.Variable (index_of names variable.name), w.0) found w.2)

  -- a term that is found adds a variable that is demanded
  term_within : (earlier : List Name) (term : TreeTerm) (found : Term Known × Kind) → Within earlier
      → term_in names demanded bound term ≡ Ok found → Within (noted earlier term)
  term_within earlier (terms.Value value) found within e = within
  term_within earlier (terms.Variable variable) found within e =
      let w = found_of (there (demanded variable.name) (Unbound variable.place)) _ found e in
      let is : is_among body variable.name ≡ true =
      sym (agree variable.name)
      ∙ ap is_some (there_of (demanded variable.name) (Unbound variable.place) w.0 w.1) in
      elim (is_among earlier variable.name) as (λ b.
      Within (if b then earlier else (earlier ++ variable.name ∷ []))) [
        | true ↦ within
        | false ↦ λ name h. split name (is_among earlier name) (same_name variable.name name) refl refl is
            (sym (list_any-append (λ other. same_name other name) earlier (variable.name ∷ [])) ∙ h)
      ]
    where
      split : (name : Name) (before same : Bool) → is_among earlier name ≡ before → same_name variable.name name ≡ same
          → is_among body variable.name ≡ true → (before || (same || false)) ≡ true → is_among body name ≡ true
      split name true same e f is h = within name e
      split name false true e f is h = ap (is_among body) (sym (equal_names variable.name name f)) ∙ is
      split name false false e f is h = cc

  terms_head : (all : List TreeTerm) (made : List (Term Known)) (earlier : List Name) → Within earlier
      → fault_of (atom_from names demanded bound made all) ≡ head_of (terms_faults body bound earlier all)
  terms_head [] made earlier within = refl
  terms_head (term ∷ more) made earlier within =
      head_then (term_in names demanded bound term) _ (term_faults body bound earlier term) _
      (term_head earlier term within)
      (λ found is. terms_head more (made ++ found.0 ∷ []) (noted earlier term)
      (term_within earlier term found within is))

  terms_within : (all : List TreeTerm) (made out : List (Term Known)) (earlier : List Name) → Within earlier
      → atom_from names demanded bound made all ≡ Ok out → Within (noted_terms earlier all)
  terms_within [] made out earlier within e = within
  terms_within (term ∷ more) made out earlier within e =
      let w = found_of (term_in names demanded bound term) _ out e in
      terms_within more (made ++ w.0.0 ∷ []) out (noted earlier term) (term_within earlier term w.0 within w.1) w.2

  -- the names that a select list binds
  abbrev taken_by : Offer → List Name
  taken_by offer = map (λ binding. binding.name) offer.bound

  binds_head : (offer : Offer) (binds : Option Identifier) (found : Term Known × Kind)
      → fault_of (bind_in offer binds found) ≡ head_of (binds_faults (taken_by offer) binds)
  binds_head offer None found = refl
  binds_head offer (Some variable) found =
      head_new (is_among (taken_by offer) variable.name) (Repeated variable.place) _ [] refl
      ∙ ap head_of (append-nil (faults_where (is_among (taken_by offer) variable.name) (Repeated variable.place)))

  binds_taken : (offer out : Offer) (binds : Option Identifier) (found : Term Known × Kind)
      → bind_in offer binds found ≡ Ok out → taken_by out ≡ taking (taken_by offer) binds
  binds_taken offer out None found e = ap taken_by (sym (one_answer (with_term offer found.0) out e))
  binds_taken offer out (Some variable) found e =
      let kept = demand_of (not (is_among (taken_by offer) variable.name)) (Repeated variable.place) _ out e in
      ap taken_by (sym (one_answer (with_bind offer variable.name found) out kept))
      ∙ map-append (λ binding. binding.name) offer.bound _

  offer_head : (all : List EntangledItem) (offer : Offer) (earlier : List Name) → Within earlier
      → fault_of (offer_from names demanded bound offer all)
      ≡ head_of (offer_faults body bound (taken_by offer) earlier all)
  unfolding item_in
  offer_head [] offer earlier within = refl
  offer_head (item ∷ more) offer earlier within =
      head_then (item_in names demanded bound offer item) _ _ _
      (head_then (term_in names demanded bound item.term) _ (term_faults body bound earlier item.term) _
      (term_head earlier item.term within) (λ found _. binds_head offer item.binds found)) (λ out is.
      let w = found_of (term_in names demanded bound item.term) _ out is in
      offer_head more out (noted earlier item.term) (term_within earlier item.term w.0 within w.1)
      ∙ ap (λ taken. head_of (offer_faults body bound taken (noted earlier item.term) more))
      (binds_taken offer out item.binds w.0 w.2))

  offer_within : (all : List EntangledItem) (offer out : Offer) (earlier : List Name) → Within earlier
      → offer_from names demanded bound offer all ≡ Ok out → Within (noted_items earlier all)
  unfolding item_in
  offer_within [] offer out earlier within e = within
  offer_within (item ∷ more) offer out earlier within e =
      let w = found_of (item_in names demanded bound offer item) _ out e in
      let t = found_of (term_in names demanded bound item.term) _ w.0 w.1 in
      offer_within more w.0 out (noted earlier item.term) (term_within earlier item.term t.0 within t.1) w.2

  others_head : (all : List Condition) (posts : List (Atom Known)) (tests : List (Test (Term Known)))
      → (earlier : List Name) → Within earlier
      → fault_of (others_from names demanded bound posts tests all)
      ≡ head_of (others_faults body demanded bound earlier all)
  unfolding post_in test_in
  others_head [] posts tests earlier within = refl
  others_head (conditions.InSelect tuple select ∷ more) posts tests earlier within =
      others_head more posts tests earlier within
  others_head (conditions.InAnswer tuple relation ∷ more) posts tests earlier within =
      head_then (post_in names demanded bound tuple relation) _ (terms_faults body bound earlier tuple.terms) _
      (head_last (atom_from names demanded bound [] tuple.terms) _ _ (terms_head tuple.terms [] earlier within))
      (λ post is.
      let w = found_of (atom_from names demanded bound [] tuple.terms) _ post is in
      others_head more (posts ++ post ∷ []) tests (noted_terms earlier tuple.terms)
      (terms_within tuple.terms [] w.0 earlier within w.1))
  others_head (conditions.Test test ∷ more) posts tests earlier within =
      let next = noted earlier test.left in
      head_then (test_in (terms_in names demanded bound) test) _ _ _
      (head_then (term_in names demanded bound test.left) _ (term_faults body bound earlier test.left) _
      (term_head earlier test.left within) (λ left l.
      head_then (term_in names demanded bound test.right) _ (term_faults body bound next test.right) _
      (term_head next test.right (term_within earlier test.left left within l)) (λ right r.
      head_demanded (same_kind left.1 right.1) (WrongKind (term_place test.right)) _
      ∙ (λ i. head_of (kinds_faults (sym (term_known test.left left l) i) (sym (term_known test.right right r) i)
      (WrongKind (term_place test.right)))))))
      (λ form is.
      let left = found_of (term_in names demanded bound test.left) _ form is in
      let right = found_of (term_in names demanded bound test.right) _ form left.2 in
      others_head more posts (tests ++ form ∷ []) (noted next test.right)
      (term_within next test.right right.0 (term_within earlier test.left left.0 within left.1) right.1))

relations_head : (all : List (Term Known)) (relations : List Identifier) (earlier : List Name)
    (made : List (Atom Known))
    → fault_of (heads_from all earlier made relations) ≡ head_of (repeated_names earlier relations)
relations_head all [] earlier made = refl
relations_head all (relation ∷ more) earlier made =
    head_new (is_among earlier relation.name) (Repeated relation.place) _
    (repeated_names (earlier ++ relation.name ∷ []) more)
    (relations_head all more (earlier ++ relation.name ∷ []) _)

pub entangled_head : (tables : List TableSchema) (bound : Bound) (entangled : TreeEntangled)
    → fault_of (entangled_in tables bound entangled) ≡ head_of (entangled_faults tables bound entangled)
unfolding entangled_in
entangled_head tables bound entangled =
    let names = variables_of entangled in
    let body = body_variables entangled.conditions in
    head_then (memberships_from tables bound names [] none_bound entangled.conditions) _ _ _
    (memberships_head tables bound names entangled.conditions [] none_bound) (λ found is.
    let agree = memberships_there tables bound names entangled.conditions [] none_bound found is in
    let known = memberships_known tables bound names entangled.conditions [] none_bound found is in
    head_then (offer_from names found.1 bound no_offer entangled.items) _
    (offer_faults body bound [] [] entangled.items) _
    (offer_head names found.1 bound body agree entangled.items no_offer [] (λ name h. cc)) (λ offer was.
    head_then (heads_from offer.terms [] [] entangled.relations) _ (repeated_names [] entangled.relations) _
    (relations_head offer.terms entangled.relations [] []) (λ heads _.
    head_last (others_from names found.1 bound [] [] entangled.conditions) _ _
    (others_head names found.1 bound body agree entangled.conditions [] [] (noted_items [] entangled.items)
    (offer_within names found.1 bound body agree entangled.items no_offer offer [] (λ name h. cc) was))
    ∙ ap (λ (demanded : Bound). head_of (others_faults body demanded bound (noted_items [] entangled.items)
    entangled.conditions)) known)))
