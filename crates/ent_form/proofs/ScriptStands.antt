-- All faults of entangled statements and of scripts are those that stand there.
use Rattle.std.proofs.Common.{◌≡◌, true, false, Bool, not, ◌&&◌, List, [], ◌∷◌, ◌++◌, length, Option, Some, None, ◌⊎◌}
use Rattle.std.proofs.Common.{inl}
use Rattle.std.proofs.Common.{inr, refl}
use Rattle.std.specs.Prelude.{◌↔◌, ◌==◌}
use Rattle.std.specs.List.{Contains, flat_map, zip}
use Rattle.ent_lists.proofs.Truth.{in_turn}
use Rattle.ent_value.specs.declared.value.Kind.{Kind}
use Rattle.ent_tree.specs.declared.entangled.Condition.{Condition}
use Rattle.ent_tree.specs.declared.entangled.Condition.TheVariants as conditions
use Rattle.ent_tree.specs.declared.entangled.Entangled.{Entangled}
use Rattle.ent_tree.specs.declared.entangled.EntangledItem.{EntangledItem}
use Rattle.ent_tree.specs.declared.entangled.Term.{Term}
use Rattle.ent_tree.specs.declared.entangled.Term.TheVariants as terms
use Rattle.ent_tree.specs.declared.entangled.Tuple.{Tuple}
use Rattle.ent_tree.specs.declared.operand.Identifier.{Identifier}
use Rattle.ent_tree.specs.declared.script.Script.{Script}
use Rattle.ent_tree.specs.declared.script.Statement.{Statement}
use Rattle.ent_tree.specs.declared.script.Statement.TheVariants as statements
use Rattle.ent_tree.specs.declared.select.Select.{Select}
use Rattle.ent_tree.specs.Places.{value_place, term_place}
use Rattle.ent_semantics.specs.Database.{Name, is_among}
use Rattle.ent_semantics.specs.Entangled.{term_variables}
use Rattle.ent_form.specs.declared.catalogue.TableSchema.{TableSchema}
use Rattle.ent_form.specs.declared.fault.FormFault.{FormFault}
use Rattle.ent_form.specs.declared.fault.FormFault.TheVariants.{Arity, WrongKind, Unbound, Repeated}
use Rattle.ent_form.specs.Entangled.{noted, noted_terms, noted_items}
use Rattle.ent_form.specs.Kinds.{Bound, none_bound}
use Rattle.ent_form.specs.AllFaults.{faults_where, kinds_faults, repeated_names, value_kind, value_faults}
use Rattle.ent_form.specs.AllFaults.{select_faults}
use Rattle.ent_form.specs.EntangledFaults.{select_kinds, demanding, demanding_unless, demanded_from, member_faults}
use Rattle.ent_form.specs.EntangledFaults.{members_faults, membership_faults, memberships_faults, body_variables}
use Rattle.ent_form.specs.EntangledFaults.{term_faults, terms_faults, term_kind, binds_faults, taking, offer_faults}
use Rattle.ent_form.specs.EntangledFaults.{others_faults, entangled_faults}
use Rattle.ent_form.specs.EntangledStanding.{IsMemberFault, demanding_sides, IsMembersFault, IsMembershipFault}
use Rattle.ent_form.specs.EntangledStanding.{IsSubselectFault, IsSubselectsFault, IsTermFault, IsTermsFault}
use Rattle.ent_form.specs.EntangledStanding.{IsTaken}
use Rattle.ent_form.specs.EntangledStanding.{item_variables, item_hosts, other_variables, IsItemsFault}
use Rattle.ent_form.specs.EntangledStanding.{IsOtherFault}
use Rattle.ent_form.specs.EntangledStanding.{IsOthersFault, IsEntangledFault}
use Rattle.ent_form.specs.ScriptFaults.{bound_after, bound_by, statement_faults, statements_faults, script_faults}
use Rattle.ent_form.specs.ScriptStanding.{IsStatementFault, IsScriptFault}
use Rattle.ent_form.proofs.Earlier.{Alike, taking_all, noted_others, term_noted, terms_noted, items_noted}
use Rattle.ent_form.proofs.Earlier.{others_noted, all_taken, term_alike, other_alike, same_by}
use Rattle.ent_form.proofs.StandsWhere.{where_stands, kinds_stand, unless_stands, none_with, among, not_among}
use Rattle.ent_form.proofs.ResolvedMembership.{turned, either, holding, none_there, contains_append, CutWhere}
use Rattle.ent_form.proofs.ResolvedMembership.{cut_nil, cut_cons}
use Rattle.ent_form.proofs.ResolvedMembership.{alike, cut_same}
use Rattle.ent_form.proofs.Stands.{number_stands, repetitions_stand, value_stands, select_stands, insert_stands}
use Rattle.ent_form.proofs.Stands.{delete_stands, update_stands, set_stands}

-- ---- IN (SELECT ..)

module _ (bound : Bound) (fault : FormFault) where
  member_stands : (demanded : Bound) (kind : Option Kind) (term : Term)
      → Contains (member_faults bound demanded kind term) fault ↔ IsMemberFault bound demanded kind term fault
  member_stands demanded kind (terms.Value value) =
      let wrong = WrongKind (value_place value) in
      in_turn (contains_append (value_faults bound value) (kinds_faults kind (value_kind bound value) wrong) fault)
      (either (value_stands bound fault value) (kinds_stand kind (value_kind bound value) wrong fault))
  member_stands demanded kind (terms.Variable variable) =
      kinds_stand (demanded variable.name) kind (WrongKind variable.place) fault

  -- a term has a fault, with what those before it demand
  abbrev IsMemberBehind : Bound → List (Option Kind × Term) → Option Kind × Term → Type 0
  IsMemberBehind demanded before side =
      IsMemberFault bound (demanding_sides demanded before) side.0 side.1 fault

  members_stand : (kinds : List (Option Kind)) (all : List Term) (demanded : Bound)
      → Contains (members_faults bound demanded kinds all) fault ↔ CutWhere (IsMemberBehind demanded) (zip kinds all)
  members_stand [] all demanded = (λ h. absurd (none_there h), λ h. absurd (cut_nil (IsMemberBehind demanded) h))
  members_stand (kind ∷ kinds) [] demanded =
      (λ h. absurd (none_there h), λ h. absurd (cut_nil (IsMemberBehind demanded) h))
  members_stand (kind ∷ kinds) (term ∷ more) demanded =
      in_turn (contains_append (member_faults bound demanded kind term)
      (members_faults bound (demanding demanded kind term) kinds more) fault)
      (in_turn (either (member_stands demanded kind term) (members_stand kinds more (demanding demanded kind term)))
      (turned (cut_cons (IsMemberBehind demanded) (kind, term) (zip kinds more))))

membership_stands : (tables : List TableSchema) (bound : Bound) (fault : FormFault) (demanded : Bound) (tuple : Tuple)
    (select : Select)
    → Contains (membership_faults tables bound demanded tuple select) fault
    ↔ IsMembershipFault tables bound demanded tuple select fault
membership_stands tables bound fault demanded tuple select =
    let kinds = select_kinds tables bound select in
    let number = faults_where (not (length tuple.terms == length kinds)) (Arity tuple.place) in
    in_turn (unless_stands (select_faults tables bound select)
    (number ++ members_faults bound demanded kinds tuple.terms)
    fault)
    (either (select_stands tables bound select fault)
    (none_with (select_stands tables bound select)
    (in_turn (contains_append number (members_faults bound demanded kinds tuple.terms) fault)
    (either (number_stands (length tuple.terms) (length kinds) (Arity tuple.place) fault)
    (members_stand bound fault kinds tuple.terms demanded)))))

module _ (tables : List TableSchema) (bound : Bound) (fault : FormFault) where
  abbrev IsSubselectBehind : Bound → List Condition → Condition → Type 0
  IsSubselectBehind demanded before condition =
      IsSubselectFault tables bound (demanded_from tables bound demanded before) condition fault

  -- what has no such fault
  none_here : {P : Type 0} → P ↔ (⊥ ⊎ P)
  none_here {P} = (inr, other)
    where
      other : ⊥ ⊎ P → P
      other (inl h) = absurd h
      other (inr p) = p

  memberships_stand : (all : List Condition) (demanded : Bound)
      → Contains (memberships_faults tables bound demanded all) fault ↔ CutWhere (IsSubselectBehind demanded) all
  memberships_stand [] demanded =
      (λ h. absurd (none_there h), λ h. absurd (cut_nil (IsSubselectBehind demanded) h))
  memberships_stand (conditions.InSelect tuple select ∷ more) demanded =
      let next = demanding_unless (select_faults tables bound select) demanded (select_kinds tables bound select)
      tuple.terms in
      in_turn (contains_append (membership_faults tables bound demanded tuple select)
      (memberships_faults tables bound next more) fault)
      (in_turn (either (membership_stands tables bound fault demanded tuple select) (memberships_stand more next))
      (turned (cut_cons (IsSubselectBehind demanded) (conditions.InSelect tuple select) more)))
  memberships_stand (conditions.InAnswer tuple relation ∷ more) demanded =
      in_turn (memberships_stand more demanded)
      (in_turn none_here (turned (cut_cons (IsSubselectBehind demanded) (conditions.InAnswer tuple relation) more)))
  memberships_stand (conditions.Test test ∷ more) demanded =
      in_turn (memberships_stand more demanded)
      (in_turn none_here (turned (cut_cons (IsSubselectBehind demanded) (conditions.Test test) more)))

-- ---- all other terms

and_is : (a b : Bool) → ((a && b) ≡ true) ↔ ((a ≡ true) × (b ≡ true))
and_is true b = (λ e. (refl, e), λ h. h.1)
and_is false b = (λ e. cc, λ h. cc)

each : {P Q R S : Type 0} → P ↔ R → Q ↔ S → (P × Q) ↔ (R × S)
each f g = (λ h. (f.0 h.0, g.0 h.1), λ h. (f.1 h.0, g.1 h.1))

module _ (body : List Name) (bound : Bound) (fault : FormFault) where
  term_stands : (earlier : List Name) (term : Term)
      → Contains (term_faults body bound earlier term) fault ↔ IsTermFault body bound earlier term fault
  term_stands earlier (terms.Value value) = value_stands bound fault value
  term_stands earlier (terms.Variable variable) =
      let out = not (is_among body variable.name) in
      let new = not (is_among earlier variable.name) in
      in_turn (where_stands (out && new) (Unbound variable.place) fault)
      (holding (in_turn (and_is out new) (each (not_among body variable.name) (not_among earlier variable.name))))

  abbrev IsTermBehind : List Name → List Term → Term → Type 0
  IsTermBehind earlier before term = IsTermFault body bound (noted_terms earlier before) term fault

  terms_stand : (all : List Term) (earlier : List Name)
      → Contains (terms_faults body bound earlier all) fault ↔ CutWhere (IsTermBehind earlier) all
  terms_stand [] earlier = (λ h. absurd (none_there h), λ h. absurd (cut_nil (IsTermBehind earlier) h))
  terms_stand (term ∷ more) earlier =
      in_turn (contains_append (term_faults body bound earlier term) (terms_faults body bound (noted earlier term) more)
      fault)
      (in_turn (either (term_stands earlier term) (terms_stand more (noted earlier term)))
      (turned (cut_cons (IsTermBehind earlier) term more)))

  binds_stand : (taken : List Name) (binds : Option Identifier)
      → Contains (binds_faults taken binds) fault ↔ IsTaken taken binds fault
  binds_stand taken None = (λ h. none_there h, λ h. absurd h)
  binds_stand taken (Some variable) =
      in_turn (where_stands (is_among taken variable.name) (Repeated variable.place) fault)
      (holding (among taken variable.name))

  abbrev IsItemBehind : List Name → List Name → List EntangledItem → EntangledItem → Type 0
  IsItemBehind taken earlier before item =
      IsTermFault body bound (noted_items earlier before) item.term fault
      ⊎ IsTaken (taking_all taken before) item.binds fault

  offer_stands : (all : List EntangledItem) (taken earlier : List Name)
      → Contains (offer_faults body bound taken earlier all) fault ↔ CutWhere (IsItemBehind taken earlier) all
  offer_stands [] taken earlier = (λ h. absurd (none_there h), λ h. absurd (cut_nil (IsItemBehind taken earlier) h))
  offer_stands (item ∷ more) taken earlier =
      let here = term_faults body bound earlier item.term in
      let again = binds_faults taken item.binds in
      let later = offer_faults body bound (taking taken item.binds) (noted earlier item.term) more in
      in_turn (contains_append (here ++ again) later fault)
      (in_turn (either
      (in_turn (contains_append here again fault)
      (either (term_stands earlier item.term) (binds_stand taken item.binds)))
      (offer_stands more (taking taken item.binds) (noted earlier item.term)))
      (turned (cut_cons (IsItemBehind taken earlier) item more)))

  -- in the variables as they are written
  listed_stands : (all : List Term) (earlier : List Name)
      → Contains (terms_faults body bound earlier all) fault ↔ IsTermsFault body bound earlier all fault
  listed_stands all earlier =
      in_turn (terms_stand all earlier) (cut_same (IsTermBehind earlier)
      (λ before term. IsTermFault body bound (earlier ++ flat_map term_variables before) term fault) (λ before term.
      term_alike body bound fault (noted_terms earlier before) (earlier ++ flat_map term_variables before) term
      (terms_noted before earlier earlier (λ name. alike))) all)

  items_stand : (all : List EntangledItem)
      → Contains (offer_faults body bound [] [] all) fault ↔ IsItemsFault body bound all fault
  items_stand all =
      in_turn (offer_stands all [] []) (cut_same (IsItemBehind [] [])
      (λ before item. IsTermFault body bound (flat_map item_variables before) item.term fault
      ⊎ IsTaken (flat_map item_hosts before) item.binds fault) (λ before item.
      either (term_alike body bound fault (noted_items [] before) (flat_map item_variables before) item.term
      (items_noted before [] [] (λ name. alike)))
      (same_by (λ taken. IsTaken taken item.binds fault) (all_taken before []))) all)

  nothing_else : {P : Type 0} → P ↔ (⊥ ⊎ P)
  nothing_else {P} = (inr, other)
    where
      other : ⊥ ⊎ P → P
      other (inl h) = absurd h
      other (inr p) = p

  module _ (demanded : Bound) where
    abbrev IsOtherBehind : List Name → List Condition → Condition → Type 0
    IsOtherBehind earlier before condition =
        IsOtherFault body demanded bound (noted_others earlier before) condition fault

    others_stand : (all : List Condition) (earlier : List Name)
        → Contains (others_faults body demanded bound earlier all) fault ↔ CutWhere (IsOtherBehind earlier) all
    others_stand [] earlier = (λ h. absurd (none_there h), λ h. absurd (cut_nil (IsOtherBehind earlier) h))
    others_stand (conditions.InSelect tuple select ∷ more) earlier =
        in_turn (others_stand more earlier)
        (in_turn nothing_else (turned (cut_cons (IsOtherBehind earlier) (conditions.InSelect tuple select) more)))
    others_stand (conditions.InAnswer tuple relation ∷ more) earlier =
        let next = noted_terms earlier tuple.terms in
        in_turn (contains_append (terms_faults body bound earlier tuple.terms)
        (others_faults body demanded bound next more) fault)
        (in_turn (either (listed_stands tuple.terms earlier) (others_stand more next))
        (turned (cut_cons (IsOtherBehind earlier) (conditions.InAnswer tuple relation) more)))
    others_stand (conditions.Test test ∷ more) earlier =
        let middle = noted earlier test.left in
        let next = noted middle test.right in
        let wrong = WrongKind (term_place test.right) in
        let left = term_faults body bound earlier test.left in
        let right = term_faults body bound middle test.right in
        let compared = kinds_faults (term_kind demanded bound test.left) (term_kind demanded bound test.right) wrong in
        in_turn (contains_append (left ++ (right ++ compared)) (others_faults body demanded bound next more) fault)
        (in_turn (either
        (in_turn (contains_append left (right ++ compared) fault)
        (either (term_stands earlier test.left)
        (in_turn (contains_append right compared fault)
        (either (in_turn (term_stands middle test.right) (term_alike body bound fault middle
        (earlier ++ term_variables test.left) test.right (term_noted earlier earlier test.left (λ name. alike))))
        (kinds_stand (term_kind demanded bound test.left) (term_kind demanded bound test.right) wrong fault)))))
        (others_stand more next))
        (turned (cut_cons (IsOtherBehind earlier) (conditions.Test test) more)))

    conditions_stand : (all : List Condition) (earlier plain : List Name) → Alike earlier plain
        → Contains (others_faults body demanded bound earlier all) fault
        ↔ IsOthersFault body demanded bound plain all fault
    conditions_stand all earlier plain same =
        in_turn (others_stand all earlier) (cut_same (IsOtherBehind earlier)
        (λ before condition. IsOtherFault body demanded bound (plain ++ flat_map other_variables before) condition
        fault) (λ before condition.
        other_alike body demanded bound fault (noted_others earlier before) (plain ++ flat_map other_variables before)
        condition (others_noted before earlier plain same)) all)

-- ---- statements and scripts

pub entangled_stands : (tables : List TableSchema) (bound : Bound) (entangled : Entangled) (fault : FormFault)
    → Contains (entangled_faults tables bound entangled) fault ↔ IsEntangledFault tables bound entangled fault
entangled_stands tables bound entangled fault =
    let body = body_variables entangled.conditions in
    let demanded = demanded_from tables bound none_bound entangled.conditions in
    let inner = memberships_faults tables bound none_bound entangled.conditions in
    let offer = offer_faults body bound [] [] entangled.items in
    let again = repeated_names [] entangled.relations in
    let others = others_faults body demanded bound (noted_items [] entangled.items) entangled.conditions in
    in_turn (contains_append inner (offer ++ (again ++ others)) fault)
    (either (memberships_stand tables bound fault entangled.conditions none_bound)
    (in_turn (contains_append offer (again ++ others) fault)
    (either (items_stand body bound fault entangled.items)
    (in_turn (contains_append again others fault)
    (either (repetitions_stand entangled.relations fault)
    (conditions_stand body bound fault demanded entangled.conditions (noted_items [] entangled.items)
    (flat_map item_variables entangled.items) (items_noted entangled.items [] [] (λ name. alike))))))))

module _ (tables : List TableSchema) where
  pub statement_stands : (bound : Bound) (statement : Statement) (fault : FormFault)
      → Contains (statement_faults tables bound statement) fault ↔ IsStatementFault tables bound statement fault
  statement_stands bound (statements.Select select) fault = select_stands tables bound select fault
  statement_stands bound (statements.Entangled entangled) fault = entangled_stands tables bound entangled fault
  statement_stands bound (statements.Insert insert) fault = insert_stands tables bound insert fault
  statement_stands bound (statements.Delete delete) fault = delete_stands tables bound delete fault
  statement_stands bound (statements.Update update) fault = update_stands tables bound update fault
  statement_stands bound (statements.Set set) fault = set_stands bound set fault

  abbrev IsStatementBehind : FormFault → Bound → List Statement → Statement → Type 0
  IsStatementBehind fault bound before statement =
      IsStatementFault tables (bound_by tables bound before) statement fault

  statements_stand : (fault : FormFault) (all : List Statement) (bound : Bound)
      → Contains (statements_faults tables bound all) fault ↔ CutWhere (IsStatementBehind fault bound) all
  statements_stand fault [] bound =
      (λ h. absurd (none_there h), λ h. absurd (cut_nil (IsStatementBehind fault bound) h))
  statements_stand fault (statement ∷ more) bound =
      let next = bound_after tables bound statement in
      in_turn (contains_append (statement_faults tables bound statement) (statements_faults tables next more) fault)
      (in_turn (either (statement_stands bound statement fault) (statements_stand fault more next))
      (turned (cut_cons (IsStatementBehind fault bound) statement more)))

  pub script_stands : (script : Script) (fault : FormFault)
      → Contains (script_faults tables script) fault ↔ IsScriptFault tables script fault
  script_stands script fault = statements_stand fault script.statements none_bound
