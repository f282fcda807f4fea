-- Which faults stand in an entangled statement, and where.
use Rattle.std.specs.Prelude.{◌≡◌, ◌⊎◌, List, [], ◌∷◌, ◌++◌, length, Option, Some, None}
use Rattle.std.specs.List.{Contains, flat_map, zip}
use Rattle.ent_value.specs.declared.value.Kind.{Kind}
use Rattle.ent_tree.specs.declared.entangled.Condition.{Condition}
use Rattle.ent_tree.specs.declared.entangled.Condition.TheVariants as conditions
use Rattle.ent_tree.specs.declared.entangled.Entangled.{Entangled}
use Rattle.ent_tree.specs.declared.entangled.EntangledItem.{EntangledItem}
use Rattle.ent_tree.specs.declared.entangled.Term.{Term}
use Rattle.ent_tree.specs.declared.entangled.Term.TheVariants as terms
use Rattle.ent_tree.specs.declared.entangled.Tuple.{Tuple}
use Rattle.ent_tree.specs.declared.operand.Identifier.{Identifier}
use Rattle.ent_tree.specs.declared.select.Select.{Select}
use Rattle.ent_tree.specs.Places.{value_place, term_place}
use Rattle.ent_semantics.specs.Database.{Name}
use Rattle.ent_semantics.specs.Entangled.{term_variables}
use Rattle.ent_form.specs.declared.catalogue.TableSchema.{TableSchema}
use Rattle.ent_form.specs.declared.fault.FormFault.{FormFault}
use Rattle.ent_form.specs.declared.fault.FormFault.TheVariants.{Arity, WrongKind, Unbound, Repeated}
use Rattle.ent_form.specs.Kinds.{Bound, none_bound}
use Rattle.ent_form.specs.AllFaults.{value_kind}
use Rattle.ent_form.specs.EntangledFaults.{select_kinds, demanding, demanded_from, body_variables, term_kind}
use Rattle.ent_form.specs.Standing.{IsRepetition, IsValueFault, Differ, IsSelectFault}

-- ---- IN (SELECT ..)

-- A value that isn't bound or isn't of the kind, or a variable that was demanded in another kind before.
abbrev pub IsMemberFault : Bound → Bound → Option Kind → Term → FormFault → Type 0
IsMemberFault bound demanded kind (terms.Value value) fault =
    IsValueFault bound value fault
    ⊎ (Differ kind (value_kind bound value) × (fault ≡ WrongKind (value_place value)))
IsMemberFault bound demanded kind (terms.Variable variable) fault =
    Differ (demanded variable.name) kind × (fault ≡ WrongKind variable.place)

-- what terms demand, each beside the kind that it is to be of
abbrev pub demanding_sides : Bound → List (Option Kind × Term) → Bound
demanding_sides demanded [] = demanded
demanding_sides demanded (side ∷ more) = demanding_sides (demanding demanded side.0 side.1) more

-- one of the terms has a fault, with what those before it demand
abbrev pub IsMembersFault : Bound → Bound → List (Option Kind) → List Term → FormFault → Type 0
IsMembersFault bound demanded kinds all fault =
    (before : List (Option Kind × Term)) × (side : Option Kind × Term) × (after : List (Option Kind × Term))
    × (zip kinds all ≡ before ++ side ∷ after)
    × IsMemberFault bound (demanding_sides demanded before) side.0 side.1 fault

-- the sub-select has a fault; or, where it has none, another number of items than the tuple has terms, or a term
abbrev pub IsMembershipFault : List TableSchema → Bound → Bound → Tuple → Select → FormFault → Type 0
IsMembershipFault tables bound demanded tuple select fault =
    let kinds = select_kinds tables bound select in
    IsSelectFault tables bound select fault
    ⊎ (((other : FormFault) → ¬ IsSelectFault tables bound select other)
    × ((¬ (length tuple.terms ≡ length kinds) × (fault ≡ Arity tuple.place))
    ⊎ IsMembersFault bound demanded kinds tuple.terms fault))

abbrev pub IsSubselectFault : List TableSchema → Bound → Bound → Condition → FormFault → Type 0
IsSubselectFault tables bound demanded (conditions.InSelect tuple select) fault =
    IsMembershipFault tables bound demanded tuple select fault
IsSubselectFault tables bound demanded (conditions.InAnswer tuple relation) fault = ⊥
IsSubselectFault tables bound demanded (conditions.Test test) fault = ⊥

-- one of the conditions has such a fault, with what those before it demand
abbrev pub IsSubselectsFault : List TableSchema → Bound → List Condition → FormFault → Type 0
IsSubselectsFault tables bound all fault =
    (before : List Condition) × (condition : Condition) × (after : List Condition)
    × (all ≡ before ++ condition ∷ after)
    × IsSubselectFault tables bound (demanded_from tables bound none_bound before) condition fault

-- ---- all other terms

-- a host variable that isn't bound, or a variable that is in no sub-select's tuple and appears here first
abbrev pub IsTermFault : List Name → Bound → List Name → Term → FormFault → Type 0
IsTermFault body bound earlier (terms.Value value) fault = IsValueFault bound value fault
IsTermFault body bound earlier (terms.Variable variable) fault =
    (¬ Contains body variable.name × ¬ Contains earlier variable.name) × (fault ≡ Unbound variable.place)

abbrev pub IsTermsFault : List Name → Bound → List Name → List Term → FormFault → Type 0
IsTermsFault body bound earlier all fault =
    (before : List Term) × (term : Term) × (after : List Term) × (all ≡ before ++ term ∷ after)
    × IsTermFault body bound (earlier ++ flat_map term_variables before) term fault

-- a host variable that was bound before
abbrev pub IsTaken : List Name → Option Identifier → FormFault → Type 0
IsTaken taken None fault = ⊥
IsTaken taken (Some variable) fault = Contains taken variable.name × (fault ≡ Repeated variable.place)

-- the variable of an item, and the host variable that it binds, where it has one
abbrev pub item_variables : EntangledItem → List Name
item_variables item = term_variables item.term

abbrev pub item_hosts : EntangledItem → List Name
item_hosts item = host_of item.binds
  where
    host_of : Option Identifier → List Name
    host_of (Some variable) = variable.name ∷ []
    host_of None = []

-- one of the items has a term with a fault, or binds a host variable that one before it binds
abbrev pub IsItemsFault : List Name → Bound → List EntangledItem → FormFault → Type 0
IsItemsFault body bound all fault =
    (before : List EntangledItem) × (item : EntangledItem) × (after : List EntangledItem)
    × (all ≡ before ++ item ∷ after)
    × (IsTermFault body bound (flat_map item_variables before) item.term fault
    ⊎ IsTaken (flat_map item_hosts before) item.binds fault)

-- a term of a postcondition or of a test has a fault, or a test is of two kinds
abbrev pub IsOtherFault : List Name → Bound → Bound → List Name → Condition → FormFault → Type 0
IsOtherFault body demanded bound earlier (conditions.InSelect tuple select) fault = ⊥
IsOtherFault body demanded bound earlier (conditions.InAnswer tuple relation) fault =
    IsTermsFault body bound earlier tuple.terms fault
IsOtherFault body demanded bound earlier (conditions.Test test) fault =
    IsTermFault body bound earlier test.left fault
    ⊎ (IsTermFault body bound (earlier ++ term_variables test.left) test.right fault
    ⊎ (Differ (term_kind demanded bound test.left) (term_kind demanded bound test.right)
    × (fault ≡ WrongKind (term_place test.right))))

-- the variables of a postcondition or a test
abbrev pub other_variables : Condition → List Name
other_variables (conditions.InSelect tuple select) = []
other_variables (conditions.InAnswer tuple relation) = flat_map term_variables tuple.terms
other_variables (conditions.Test test) = term_variables test.left ++ term_variables test.right

-- one of the conditions has such a fault, with the variables that appear before it
abbrev pub IsOthersFault : List Name → Bound → Bound → List Name → List Condition → FormFault → Type 0
IsOthersFault body demanded bound earlier all fault =
    (before : List Condition) × (condition : Condition) × (after : List Condition)
    × (all ≡ before ++ condition ∷ after)
    × IsOtherFault body demanded bound (earlier ++ flat_map other_variables before) condition fault

-- ---- the statement

-- a sub-select or its tuple, an item, an answer relation that is named twice, or another condition
abbrev pub IsEntangledFault : List TableSchema → Bound → Entangled → FormFault → Type 0
IsEntangledFault tables bound entangled fault =
    let body = body_variables entangled.conditions in
    let demanded = demanded_from tables bound none_bound entangled.conditions in
    IsSubselectsFault tables bound entangled.conditions fault
    ⊎ (IsItemsFault body bound entangled.items fault
    ⊎ (IsRepetition entangled.relations fault
    ⊎ IsOthersFault body demanded bound (flat_map item_variables entangled.items) entangled.conditions fault))
