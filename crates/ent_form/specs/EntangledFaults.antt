-- All faults of an entangled statement, in the order in which they count: those of all IN (SELECT ..) conditions from
-- left to right, then those of all else in the order of the text.
use Rattle.std.specs.Prelude.{not, ◌&&◌, List, [], ◌∷◌, ◌++◌, map, length, Option, Some, None, is_some}
use Rattle.std.specs.Prelude.{if◌then◌else◌, ◌==◌}
use Rattle.std.specs.List.{flat_map}
use Rattle.ent_value.specs.declared.value.Kind.{Kind}
use Rattle.ent_tree.specs.declared.entangled.Condition.{Condition}
use Rattle.ent_tree.specs.declared.entangled.Condition.TheVariants as conditions
use Rattle.ent_tree.specs.declared.entangled.Entangled.{Entangled}
use Rattle.ent_tree.specs.declared.entangled.EntangledItem.{EntangledItem}
use Rattle.ent_tree.specs.declared.entangled.Term.{Term}
use Rattle.ent_tree.specs.declared.entangled.Term.TheVariants as terms
use Rattle.ent_tree.specs.declared.entangled.Tuple.{Tuple}
use Rattle.ent_tree.specs.declared.operand.Identifier.{Identifier}
use Rattle.ent_tree.specs.declared.select.Items.{Items}
use Rattle.ent_tree.specs.declared.select.Items.TheVariants as items
use Rattle.ent_tree.specs.declared.select.Select.{Select}
use Rattle.ent_tree.specs.Places.{term_place}
use Rattle.ent_semantics.specs.Database.{Name, is_among}
use Rattle.ent_semantics.specs.Entangled.{term_variables}
use Rattle.ent_form.specs.declared.catalogue.TableSchema.{TableSchema}
use Rattle.ent_form.specs.declared.fault.FormFault.{FormFault}
use Rattle.ent_form.specs.declared.fault.FormFault.TheVariants.{Arity, WrongKind, Unbound, Repeated}
use Rattle.ent_form.specs.Entangled.{noted, noted_terms, noted_items}
use Rattle.ent_form.specs.Kinds.{Bound, none_bound, with_kind}
use Rattle.ent_form.specs.AllFaults.{faults_where, unless_any, kinds_faults, repeated_names, value_kind, value_faults}
use Rattle.ent_form.specs.AllFaults.{values, View, operand_kind, view_of, select_faults}

-- ---- IN (SELECT ..)

-- the kinds of what a SELECT shows, where they are known
abbrev pub shown_kinds : View → Bound → Items → List (Option Kind)
shown_kinds view bound items.All = map (λ column. Some column.kind) view.columns
shown_kinds view bound (items.Listed listed) = map (operand_kind view bound) listed

abbrev pub select_kinds : List TableSchema → Bound → Select → List (Option Kind)
select_kinds tables bound select = shown_kinds (view_of tables select.sources) bound select.items

-- the kinds that variables are demanded in, with what one term demands that is to be of this kind
abbrev pub demanding : Bound → Option Kind → Term → Bound
demanding demanded kind (terms.Value value) = demanded
demanding demanded None (terms.Variable variable) = demanded
demanding demanded (Some kind) (terms.Variable variable) =
    if is_some (demanded variable.name) then demanded else with_kind demanded variable.name kind

-- kinds and terms side by side
abbrev pub demanding_all : Bound → List (Option Kind) → List Term → Bound
demanding_all demanded [] all = demanded
demanding_all demanded (kind ∷ kinds) [] = demanded
demanding_all demanded (kind ∷ kinds) (term ∷ more) = demanding_all (demanding demanded kind term) kinds more

-- a sub-select that has a fault demands no kinds
abbrev pub demanding_unless : List FormFault → Bound → List (Option Kind) → List Term → Bound
demanding_unless [] demanded kinds all = demanding_all demanded kinds all
demanding_unless (fault ∷ more) demanded kinds all = demanded

abbrev pub demanded_from : List TableSchema → Bound → Bound → List Condition → Bound
demanded_from tables bound demanded [] = demanded
demanded_from tables bound demanded (conditions.InSelect tuple select ∷ more) =
    demanded_from tables bound (demanding_unless (select_faults tables bound select) demanded
    (select_kinds tables bound select) tuple.terms) more
demanded_from tables bound demanded (conditions.InAnswer tuple relation ∷ more) =
    demanded_from tables bound demanded more
demanded_from tables bound demanded (conditions.Test test ∷ more) = demanded_from tables bound demanded more

-- A value that isn't of the kind, or a variable that was demanded in another kind before.
abbrev pub member_faults : Bound → Bound → Option Kind → Term → List FormFault
member_faults bound demanded kind (terms.Value value) =
    value_faults bound value ++ kinds_faults kind (value_kind bound value) (WrongKind ((values bound).place value))
member_faults bound demanded kind (terms.Variable variable) =
    kinds_faults (demanded variable.name) kind (WrongKind variable.place)

-- kinds and terms side by side
abbrev pub members_faults : Bound → Bound → List (Option Kind) → List Term → List FormFault
members_faults bound demanded [] all = []
members_faults bound demanded (kind ∷ kinds) [] = []
members_faults bound demanded (kind ∷ kinds) (term ∷ more) =
    member_faults bound demanded kind term ++ members_faults bound (demanding demanded kind term) kinds more

-- the sub-select; where it has none, the number of its items, then the terms
abbrev pub membership_faults : List TableSchema → Bound → Bound → Tuple → Select → List FormFault
membership_faults tables bound demanded tuple select =
    let kinds = select_kinds tables bound select in
    unless_any (select_faults tables bound select)
    (faults_where (not (length tuple.terms == length kinds)) (Arity tuple.place)
    ++ members_faults bound demanded kinds tuple.terms)

abbrev pub memberships_faults : List TableSchema → Bound → Bound → List Condition → List FormFault
memberships_faults tables bound demanded [] = []
memberships_faults tables bound demanded (conditions.InSelect tuple select ∷ more) =
    membership_faults tables bound demanded tuple select
    ++ memberships_faults tables bound (demanding_unless (select_faults tables bound select) demanded
    (select_kinds tables bound select) tuple.terms) more
memberships_faults tables bound demanded (conditions.InAnswer tuple relation ∷ more) =
    memberships_faults tables bound demanded more
memberships_faults tables bound demanded (conditions.Test test ∷ more) = memberships_faults tables bound demanded more

-- ---- all other terms

-- the variables in the tuple of a sub-select
abbrev pub tuple_variables : Condition → List Name
tuple_variables (conditions.InSelect tuple select) = flat_map term_variables tuple.terms
tuple_variables (conditions.InAnswer tuple relation) = []
tuple_variables (conditions.Test test) = []

-- those in any
abbrev pub body_variables : List Condition → List Name
body_variables all = flat_map tuple_variables all

-- A variable that is in no sub-select's tuple counts where it appears first: not among these earlier ones.
abbrev pub term_faults : List Name → Bound → List Name → Term → List FormFault
term_faults body bound earlier (terms.Value value) = value_faults bound value
term_faults body bound earlier (terms.Variable variable) =
    faults_where (not (is_among body variable.name) && not (is_among earlier variable.name)) (Unbound variable.place)

abbrev pub terms_faults : List Name → Bound → List Name → List Term → List FormFault
terms_faults body bound earlier [] = []
terms_faults body bound earlier (term ∷ more) =
    term_faults body bound earlier term ++ terms_faults body bound (noted earlier term) more

-- the kind of a term, where it is known: a variable has that which it is demanded in
abbrev pub term_kind : Bound → Bound → Term → Option Kind
term_kind demanded bound (terms.Value value) = value_kind bound value
term_kind demanded bound (terms.Variable variable) = demanded variable.name

-- a host variable is bound once
abbrev pub binds_faults : List Name → Option Identifier → List FormFault
binds_faults taken None = []
binds_faults taken (Some variable) = faults_where (is_among taken variable.name) (Repeated variable.place)

abbrev pub taking : List Name → Option Identifier → List Name
taking taken None = taken
taking taken (Some variable) = taken ++ variable.name ∷ []

-- item by item: the term, then the host variable that it binds
abbrev pub offer_faults : List Name → Bound → List Name → List Name → List EntangledItem → List FormFault
offer_faults body bound taken earlier [] = []
offer_faults body bound taken earlier (item ∷ more) =
    (term_faults body bound earlier item.term ++ binds_faults taken item.binds)
    ++ offer_faults body bound (taking taken item.binds) (noted earlier item.term) more

-- postconditions and tests; in a test both sides come before their kinds
abbrev pub others_faults : List Name → Bound → Bound → List Name → List Condition → List FormFault
others_faults body demanded bound earlier [] = []
others_faults body demanded bound earlier (conditions.InSelect tuple select ∷ more) =
    others_faults body demanded bound earlier more
others_faults body demanded bound earlier (conditions.InAnswer tuple relation ∷ more) =
    terms_faults body bound earlier tuple.terms
    ++ others_faults body demanded bound (noted_terms earlier tuple.terms) more
others_faults body demanded bound earlier (conditions.Test test ∷ more) =
    (term_faults body bound earlier test.left
    ++ (term_faults body bound (noted earlier test.left) test.right
    ++ kinds_faults (term_kind demanded bound test.left) (term_kind demanded bound test.right)
    (WrongKind (term_place test.right))))
    ++ others_faults body demanded bound (noted (noted earlier test.left) test.right) more

-- the sub-selects, the items, the answer relations, then all other conditions
abbrev pub entangled_faults : List TableSchema → Bound → Entangled → List FormFault
entangled_faults tables bound entangled =
    let body = body_variables entangled.conditions in
    let demanded = demanded_from tables bound none_bound entangled.conditions in
    memberships_faults tables bound none_bound entangled.conditions
    ++ (offer_faults body bound [] [] entangled.items
    ++ (repeated_names [] entangled.relations
    ++ others_faults body demanded bound (noted_items [] entangled.items) entangled.conditions))
