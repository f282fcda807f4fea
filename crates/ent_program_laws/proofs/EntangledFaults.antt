-- The faults of entangled statements are the same, places aside.
use Rattle.std.proofs.Common.{◌≡◌, not, ◌&&◌, ◌==◌, List, [], ◌∷◌, ◌++◌, length, map, refl, ap, ◌∙◌}
use Rattle.std.proofs.Common.{Option, Some, None}
use Rattle.std.specs.Option.{option_map}
use Rattle.ent_value.specs.declared.value.Kind.{Kind}
use Rattle.ent_tree.specs.Places.{unplaced_identifier, unplaced_operand, unplaced_items, unplaced_select, term_place}
use Rattle.ent_tree.specs.Places.{unplaced_term, unplaced_item, unplaced_tuple, unplaced_condition, unplaced_entangled}
use Rattle.ent_tree.specs.declared.entangled.Condition.{Condition}
use Rattle.ent_tree.specs.declared.entangled.Condition.TheVariants as conditions
use Rattle.ent_tree.specs.declared.entangled.Entangled.{Entangled}
use Rattle.ent_tree.specs.declared.entangled.EntangledItem.{EntangledItem}
use Rattle.ent_tree.specs.declared.entangled.Term.{Term}
use Rattle.ent_tree.specs.declared.entangled.Term.TheVariants as terms
use Rattle.ent_tree.specs.declared.entangled.Tuple.{Tuple}
use Rattle.ent_tree.specs.declared.operand.Identifier.{Identifier}
use Rattle.ent_tree.specs.declared.operand.Test.{Test}
use Rattle.ent_tree.specs.declared.select.Items.{Items}
use Rattle.ent_tree.specs.declared.select.Items.TheVariants as items
use Rattle.ent_tree.specs.declared.select.Select.{Select}
use Rattle.ent_semantics.specs.Database.{Name, is_among}
use Rattle.ent_semantics.specs.Entangled.{term_variables}
use Rattle.ent_form.specs.AllFaults.{View, faults_where, kinds_faults, repeated_names, value_kind}
use Rattle.ent_form.specs.AllFaults.{values, operand_kind, view_of, select_faults}
use Rattle.ent_form.specs.Entangled.{noted, noted_terms, noted_items}
use Rattle.ent_form.specs.EntangledFaults.{shown_kinds, select_kinds, demanding, demanding_all, demanding_unless}
use Rattle.ent_form.specs.EntangledFaults.{demanded_from, member_faults, members_faults, membership_faults}
use Rattle.ent_form.specs.EntangledFaults.{memberships_faults, tuple_variables, body_variables, term_faults}
use Rattle.ent_form.specs.EntangledFaults.{terms_faults, term_kind, binds_faults, taking, offer_faults, others_faults}
use Rattle.ent_form.specs.EntangledFaults.{entangled_faults}
use Rattle.ent_form.specs.Kinds.{Bound, none_bound}
use Rattle.ent_form.specs.declared.catalogue.TableSchema.{TableSchema}
use Rattle.ent_form.specs.declared.fault.FormFault.{FormFault}
use Rattle.ent_form.specs.declared.fault.FormFault.TheVariants.{Arity, WrongKind, Unbound, Repeated}
use Rattle.ent_program_laws.specs.Faults.{unplaced_fault}
use Rattle.ent_program_laws.proofs.Entangled.{term_variables_same}
use Rattle.ent_program_laws.proofs.FaultLists.{AreBare, both_bare, where_bare, unless_bare, kinds_bare, repeated_bare}
use Rattle.ent_program_laws.proofs.Faults.{view_same, select_bare, arity_bare}
use Rattle.ent_program_laws.proofs.TermFaults.{value_kind_same, value_bare, value_place_none, operand_kind_same}
use Rattle.ent_program_laws.proofs.Through.{map_through, flat_through}

-- ---- IN (SELECT ..)

shown_same : (view : View) (bound : Bound) (shown : Items)
    → shown_kinds view bound (unplaced_items shown) ≡ shown_kinds view bound shown
shown_same view bound items.All = refl
shown_same view bound (items.Listed listed) =
    map_through unplaced_operand (operand_kind view bound) (operand_kind view bound) (operand_kind_same view bound)
    listed

select_kinds_same : (tables : List TableSchema) (bound : Bound) (select : Select)
    → select_kinds tables bound (unplaced_select select) ≡ select_kinds tables bound select
select_kinds_same tables bound select =
    ap (λ (view : View). shown_kinds view bound (unplaced_items select.items)) (view_same tables select.sources)
    ∙ shown_same (view_of tables select.sources) bound select.items

demanding_same : (demanded : Bound) (kind : Option Kind) (term : Term)
    → demanding demanded kind (unplaced_term term) ≡ demanding demanded kind term
demanding_same demanded kind (terms.Value value) = refl
demanding_same demanded None (terms.Variable variable) = refl
demanding_same demanded (Some kind) (terms.Variable variable) = refl

demanding_all_same : (demanded : Bound) (kinds : List (Option Kind)) (all : List Term)
    → demanding_all demanded kinds (map unplaced_term all) ≡ demanding_all demanded kinds all
demanding_all_same demanded [] all = refl
demanding_all_same demanded (kind ∷ kinds) [] = refl
demanding_all_same demanded (kind ∷ kinds) (term ∷ more) =
    ap (λ (demanded : Bound). demanding_all demanded kinds (map unplaced_term more)) (demanding_same demanded kind term)
    ∙ demanding_all_same (demanding demanded kind term) kinds more

demanding_unless_same : (faults : List FormFault) (demanded : Bound) (kinds : List (Option Kind)) (all : List Term)
    → demanding_unless (map unplaced_fault faults) demanded kinds (map unplaced_term all)
    ≡ demanding_unless faults demanded kinds all
demanding_unless_same [] demanded kinds all = demanding_all_same demanded kinds all
demanding_unless_same (fault ∷ more) demanded kinds all = refl

-- what is demanded after a sub-select
demanded_same : (tables : List TableSchema) (bound demanded : Bound) (tuple : Tuple) (select : Select)
    → demanding_unless (select_faults tables bound (unplaced_select select)) demanded
    (select_kinds tables bound (unplaced_select select)) (map unplaced_term tuple.terms)
    ≡ demanding_unless (select_faults tables bound select) demanded (select_kinds tables bound select) tuple.terms
demanded_same tables bound demanded tuple select =
    let faults = select_bare tables bound select in
    let kinds = select_kinds_same tables bound select in
    (λ i. demanding_unless (faults i) demanded (kinds i) (map unplaced_term tuple.terms))
    ∙ demanding_unless_same (select_faults tables bound select) demanded (select_kinds tables bound select) tuple.terms

pub demanded_from_same : (tables : List TableSchema) (bound demanded : Bound) (conditions : List Condition)
    → demanded_from tables bound demanded (map unplaced_condition conditions)
    ≡ demanded_from tables bound demanded conditions
demanded_from_same tables bound demanded [] = refl
demanded_from_same tables bound demanded (conditions.InSelect tuple select ∷ more) =
    ap (λ (demanded : Bound). demanded_from tables bound demanded (map unplaced_condition more))
    (demanded_same tables bound demanded tuple select)
    ∙ demanded_from_same tables bound (demanding_unless (select_faults tables bound select) demanded
    (select_kinds tables bound select) tuple.terms) more
demanded_from_same tables bound demanded (conditions.InAnswer tuple relation ∷ more) =
    demanded_from_same tables bound demanded more
demanded_from_same tables bound demanded (conditions.Test test ∷ more) = demanded_from_same tables bound demanded more

member_bare : (bound demanded : Bound) (kind : Option Kind) (term : Term)
    → AreBare (member_faults bound demanded kind (unplaced_term term)) (member_faults bound demanded kind term)
member_bare bound demanded kind (terms.Value value) =
    let same = value_kind_same bound value in
    let none = value_place_none value in
    both_bare _ _ _ _ (value_bare bound value)
    ((λ i. kinds_faults kind (same i) (WrongKind (none i)))
    ∙ kinds_bare kind (value_kind bound value) (WrongKind ((values bound).place value)))
member_bare bound demanded kind (terms.Variable variable) =
    kinds_bare (demanded variable.name) kind (WrongKind variable.place)

members_bare : (bound demanded : Bound) (kinds : List (Option Kind)) (all : List Term)
    → AreBare (members_faults bound demanded kinds (map unplaced_term all)) (members_faults bound demanded kinds all)
members_bare bound demanded [] all = refl
members_bare bound demanded (kind ∷ kinds) [] = refl
members_bare bound demanded (kind ∷ kinds) (term ∷ more) =
    both_bare (member_faults bound demanded kind term)
    (members_faults bound (demanding demanded kind term) kinds more)
    (member_faults bound demanded kind (unplaced_term term))
    (members_faults bound (demanding demanded kind (unplaced_term term)) kinds (map unplaced_term more))
    (member_bare bound demanded kind term)
    (ap (λ (demanded : Bound). members_faults bound demanded kinds (map unplaced_term more))
    (demanding_same demanded kind term)
    ∙ members_bare bound (demanding demanded kind term) kinds more)

membership_bare : (tables : List TableSchema) (bound demanded : Bound) (tuple : Tuple) (select : Select)
    → AreBare (membership_faults tables bound demanded (unplaced_tuple tuple) (unplaced_select select))
    (membership_faults tables bound demanded tuple select)
membership_bare tables bound demanded tuple select =
    unless_bare (select_faults tables bound select) (rest (select_kinds tables bound select))
    (select_faults tables bound (unplaced_select select))
    (bare_rest (select_kinds tables bound (unplaced_select select)))
    (select_bare tables bound select)
    (ap bare_rest (select_kinds_same tables bound select) ∙ rest_bare (select_kinds tables bound select))
  where
    rest : List (Option Kind) → List FormFault
    rest kinds =
        faults_where (not (length tuple.terms == length kinds)) (Arity tuple.place)
        ++ members_faults bound demanded kinds tuple.terms

    bare_rest : List (Option Kind) → List FormFault
    bare_rest kinds =
        faults_where (not (length (map unplaced_term tuple.terms) == length kinds)) (Arity 0)
        ++ members_faults bound demanded kinds (map unplaced_term tuple.terms)

    rest_bare : (kinds : List (Option Kind)) → AreBare (bare_rest kinds) (rest kinds)
    rest_bare kinds =
        both_bare (faults_where (not (length tuple.terms == length kinds)) (Arity tuple.place))
        (members_faults bound demanded kinds tuple.terms)
        (faults_where (not (length (map unplaced_term tuple.terms) == length kinds)) (Arity 0))
        (members_faults bound demanded kinds (map unplaced_term tuple.terms))
        (arity_bare unplaced_term tuple.terms (length kinds) tuple.place)
        (members_bare bound demanded kinds tuple.terms)

memberships_bare : (tables : List TableSchema) (bound demanded : Bound) (conditions : List Condition)
    → AreBare (memberships_faults tables bound demanded (map unplaced_condition conditions))
    (memberships_faults tables bound demanded conditions)
memberships_bare tables bound demanded [] = refl
memberships_bare tables bound demanded (conditions.InSelect tuple select ∷ more) =
    both_bare (membership_faults tables bound demanded tuple select)
    (memberships_faults tables bound (demanding_unless (select_faults tables bound select) demanded
    (select_kinds tables bound select) tuple.terms) more)
    (membership_faults tables bound demanded (unplaced_tuple tuple) (unplaced_select select))
    (memberships_faults tables bound (demanding_unless (select_faults tables bound (unplaced_select select)) demanded
    (select_kinds tables bound (unplaced_select select)) (map unplaced_term tuple.terms)) (map unplaced_condition more))
    (membership_bare tables bound demanded tuple select)
    (ap (λ (demanded : Bound). memberships_faults tables bound demanded (map unplaced_condition more))
    (demanded_same tables bound demanded tuple select)
    ∙ memberships_bare tables bound (demanding_unless (select_faults tables bound select) demanded
    (select_kinds tables bound select) tuple.terms) more)
memberships_bare tables bound demanded (conditions.InAnswer tuple relation ∷ more) =
    memberships_bare tables bound demanded more
memberships_bare tables bound demanded (conditions.Test test ∷ more) = memberships_bare tables bound demanded more

-- ---- names

tuple_variables_same : (condition : Condition)
    → tuple_variables (unplaced_condition condition) ≡ tuple_variables condition
tuple_variables_same (conditions.InSelect tuple select) =
    flat_through unplaced_term term_variables term_variables term_variables_same tuple.terms
tuple_variables_same (conditions.InAnswer tuple relation) = refl
tuple_variables_same (conditions.Test test) = refl

body_same : (conditions : List Condition)
    → body_variables (map unplaced_condition conditions) ≡ body_variables conditions
body_same conditions =
    flat_through unplaced_condition tuple_variables tuple_variables tuple_variables_same conditions

noted_same : (names : List Name) (term : Term) → noted names (unplaced_term term) ≡ noted names term
noted_same names (terms.Value value) = refl
noted_same names (terms.Variable variable) = refl

noted_terms_same : (names : List Name) (all : List Term)
    → noted_terms names (map unplaced_term all) ≡ noted_terms names all
noted_terms_same names [] = refl
noted_terms_same names (term ∷ more) =
    ap (λ (names : List Name). noted_terms names (map unplaced_term more)) (noted_same names term)
    ∙ noted_terms_same (noted names term) more

noted_items_same : (names : List Name) (all : List EntangledItem)
    → noted_items names (map unplaced_item all) ≡ noted_items names all
noted_items_same names [] = refl
noted_items_same names (item ∷ more) =
    ap (λ (names : List Name). noted_items names (map unplaced_item more)) (noted_same names item.term)
    ∙ noted_items_same (noted names item.term) more

taking_same : (taken : List Name) (binds : Option Identifier)
    → taking taken (option_map unplaced_identifier binds) ≡ taking taken binds
taking_same taken None = refl
taking_same taken (Some variable) = refl

-- ---- all other terms

term_bare : (body : List Name) (bound : Bound) (earlier : List Name) (term : Term)
    → AreBare (term_faults body bound earlier (unplaced_term term)) (term_faults body bound earlier term)
term_bare body bound earlier (terms.Value value) = value_bare bound value
term_bare body bound earlier (terms.Variable variable) =
    where_bare (not (is_among body variable.name) && not (is_among earlier variable.name)) (Unbound variable.place)

terms_bare : (body : List Name) (bound : Bound) (earlier : List Name) (all : List Term)
    → AreBare (terms_faults body bound earlier (map unplaced_term all)) (terms_faults body bound earlier all)
terms_bare body bound earlier [] = refl
terms_bare body bound earlier (term ∷ more) =
    both_bare (term_faults body bound earlier term) (terms_faults body bound (noted earlier term) more)
    (term_faults body bound earlier (unplaced_term term))
    (terms_faults body bound (noted earlier (unplaced_term term)) (map unplaced_term more))
    (term_bare body bound earlier term)
    (ap (λ (names : List Name). terms_faults body bound names (map unplaced_term more)) (noted_same earlier term)
    ∙ terms_bare body bound (noted earlier term) more)

pub term_kind_same : (demanded bound : Bound) (term : Term)
    → term_kind demanded bound (unplaced_term term) ≡ term_kind demanded bound term
term_kind_same demanded bound (terms.Value value) = value_kind_same bound value
term_kind_same demanded bound (terms.Variable variable) = refl

term_place_none : (term : Term) → term_place (unplaced_term term) ≡ 0
term_place_none (terms.Value value) = value_place_none value
term_place_none (terms.Variable variable) = refl

binds_bare : (taken : List Name) (binds : Option Identifier)
    → AreBare (binds_faults taken (option_map unplaced_identifier binds)) (binds_faults taken binds)
binds_bare taken None = refl
binds_bare taken (Some variable) = where_bare (is_among taken variable.name) (Repeated variable.place)

offer_bare : (body : List Name) (bound : Bound) (taken earlier : List Name) (all : List EntangledItem)
    → AreBare (offer_faults body bound taken earlier (map unplaced_item all))
    (offer_faults body bound taken earlier all)
offer_bare body bound taken earlier [] = refl
offer_bare body bound taken earlier (item ∷ more) =
    both_bare (term_faults body bound earlier item.term ++ binds_faults taken item.binds)
    (offer_faults body bound (taking taken item.binds) (noted earlier item.term) more)
    (term_faults body bound earlier (unplaced_term item.term)
    ++ binds_faults taken (option_map unplaced_identifier item.binds))
    (offer_faults body bound (taking taken (option_map unplaced_identifier item.binds))
    (noted earlier (unplaced_term item.term)) (map unplaced_item more))
    (both_bare (term_faults body bound earlier item.term) (binds_faults taken item.binds)
    (term_faults body bound earlier (unplaced_term item.term))
    (binds_faults taken (option_map unplaced_identifier item.binds)) (term_bare body bound earlier item.term)
    (binds_bare taken item.binds))
    ((λ i. offer_faults body bound (taking_same taken item.binds i) (noted_same earlier item.term i)
    (map unplaced_item more))
    ∙ offer_bare body bound (taking taken item.binds) (noted earlier item.term) more)

test_bare : (body : List Name) (demanded bound : Bound) (earlier : List Name) (test : Test Term)
    → AreBare (term_faults body bound earlier (unplaced_term test.left)
    ++ (term_faults body bound (noted earlier (unplaced_term test.left)) (unplaced_term test.right)
    ++ kinds_faults (term_kind demanded bound (unplaced_term test.left))
    (term_kind demanded bound (unplaced_term test.right)) (WrongKind (term_place (unplaced_term test.right)))))
    (term_faults body bound earlier test.left
    ++ (term_faults body bound (noted earlier test.left) test.right
    ++ kinds_faults (term_kind demanded bound test.left) (term_kind demanded bound test.right)
    (WrongKind (term_place test.right))))
test_bare body demanded bound earlier test =
    let left = term_kind_same demanded bound test.left in
    let right = term_kind_same demanded bound test.right in
    let none = term_place_none test.right in
    both_bare _ _ _ _ (term_bare body bound earlier test.left)
    (both_bare _ _ _ _
    (ap (λ (names : List Name). term_faults body bound names (unplaced_term test.right)) (noted_same earlier test.left)
    ∙ term_bare body bound (noted earlier test.left) test.right)
    ((λ i. kinds_faults (left i) (right i) (WrongKind (none i)))
    ∙ kinds_bare (term_kind demanded bound test.left) (term_kind demanded bound test.right)
    (WrongKind (term_place test.right))))

others_bare : (body : List Name) (demanded bound : Bound) (earlier : List Name) (conditions : List Condition)
    → AreBare (others_faults body demanded bound earlier (map unplaced_condition conditions))
    (others_faults body demanded bound earlier conditions)
others_bare body demanded bound earlier [] = refl
others_bare body demanded bound earlier (conditions.InSelect tuple select ∷ more) =
    others_bare body demanded bound earlier more
others_bare body demanded bound earlier (conditions.InAnswer tuple relation ∷ more) =
    both_bare (terms_faults body bound earlier tuple.terms)
    (others_faults body demanded bound (noted_terms earlier tuple.terms) more)
    (terms_faults body bound earlier (map unplaced_term tuple.terms))
    (others_faults body demanded bound (noted_terms earlier (map unplaced_term tuple.terms))
    (map unplaced_condition more))
    (terms_bare body bound earlier tuple.terms)
    (ap (λ (names : List Name). others_faults body demanded bound names (map unplaced_condition more))
    (noted_terms_same earlier tuple.terms)
    ∙ others_bare body demanded bound (noted_terms earlier tuple.terms) more)
others_bare body demanded bound earlier (conditions.Test test ∷ more) =
    both_bare _ (others_faults body demanded bound (noted (noted earlier test.left) test.right) more) _
    (others_faults body demanded bound (noted (noted earlier (unplaced_term test.left)) (unplaced_term test.right))
    (map unplaced_condition more))
    (test_bare body demanded bound earlier test)
    (ap (λ (names : List Name). others_faults body demanded bound (noted names (unplaced_term test.right))
    (map unplaced_condition more)) (noted_same earlier test.left)
    ∙ ap (λ (names : List Name). others_faults body demanded bound names (map unplaced_condition more))
    (noted_same (noted earlier test.left) test.right)
    ∙ others_bare body demanded bound (noted (noted earlier test.left) test.right) more)

pub entangled_bare : (tables : List TableSchema) (bound : Bound) (entangled : Entangled)
    → AreBare (entangled_faults tables bound (unplaced_entangled entangled)) (entangled_faults tables bound entangled)
entangled_bare tables bound entangled =
    (λ i. memberships_faults tables bound none_bound (map unplaced_condition entangled.conditions)
    ++ (offer_faults (body i) bound [] [] (map unplaced_item entangled.items)
    ++ (repeated_names [] (map unplaced_identifier entangled.relations)
    ++ others_faults (body i) (demanded i) bound (names i) (map unplaced_condition entangled.conditions))))
    ∙ both_bare _ _ _ _ (memberships_bare tables bound none_bound entangled.conditions)
    (both_bare _ _ _ _ (offer_bare (body_variables entangled.conditions) bound [] [] entangled.items)
    (both_bare _ _ _ _ (repeated_bare [] entangled.relations)
    (others_bare (body_variables entangled.conditions) (demanded_from tables bound none_bound entangled.conditions)
    bound (noted_items [] entangled.items) entangled.conditions)))
  where
    body : body_variables (map unplaced_condition entangled.conditions) ≡ body_variables entangled.conditions
    body = body_same entangled.conditions

    demanded : demanded_from tables bound none_bound (map unplaced_condition entangled.conditions)
        ≡ demanded_from tables bound none_bound entangled.conditions
    demanded = demanded_from_same tables bound none_bound entangled.conditions

    names : noted_items [] (map unplaced_item entangled.items) ≡ noted_items [] entangled.items
    names = noted_items_same [] entangled.items
