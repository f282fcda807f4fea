-- Each written variable of an entangled statement without a fault of form stands in a tuple of some sub-select.
use Rattle.std.proofs.Common.{◌≡◌, ◌⊎◌, Bool, true, false, not, ◌&&◌, List, [], ◌∷◌, ◌++◌, map, refl, subst, inl, inr}
use Rattle.std.specs.Prelude.{if◌then◌else◌}
use Rattle.std.specs.List.{AllByRecursion, filter, flat_map}
use Rattle.ent_tree.specs.declared.entangled.Condition.{Condition}
use Rattle.ent_tree.specs.declared.entangled.Condition.TheVariants as conditions
use Rattle.ent_tree.specs.declared.entangled.Entangled.{Entangled}
use Rattle.ent_tree.specs.declared.entangled.EntangledItem.{EntangledItem}
use Rattle.ent_tree.specs.declared.entangled.Term.{Term}
use Rattle.ent_tree.specs.declared.entangled.Term.TheVariants as terms
use Rattle.ent_tree.specs.Places.{term_place}
use Rattle.ent_semantics.specs.Entangled.{condition_terms, first_of_each, head_terms, term_variables, written_variables}
use Rattle.ent_semantics.specs.Names.{equal_names, name_itself}
use Rattle.ent_form.specs.AllFaults.{faults_where, kinds_faults, repeated_names}
use Rattle.ent_form.specs.Entangled.{noted, noted_items, noted_terms}
use Rattle.ent_form.specs.EntangledFaults.{binds_faults, body_variables, demanded_from, entangled_faults}
use Rattle.ent_form.specs.EntangledFaults.{memberships_faults, offer_faults, others_faults, taking, term_faults}
use Rattle.ent_form.specs.EntangledFaults.{term_kind, terms_faults, tuple_variables}
use Rattle.ent_form.specs.Kinds.{Bound, none_bound}
use Rattle.ent_form.specs.declared.catalogue.TableSchema.{TableSchema}
use Rattle.ent_form.specs.declared.fault.FormFault.{FormFault}
use Rattle.ent_form.specs.declared.fault.FormFault.TheVariants.{Unbound, WrongKind}
use Rattle.ent_history.proofs.RuleLists.{none_first, none_second}
use Rattle.ent_lists.specs.Elements.{In, Pairs, all_filtered, all_joined, any_in, any_some, of_all, of_filter}
use Rattle.ent_lists.specs.Elements.{pairs_filtered, to_all, to_flat, turned}
use Rattle.ent_semantics.specs.Database.{Name, same_name, is_among}

-- ---- each name where it comes first

firsts_all : (Q : Name → Type 0) (names : List Name) → AllByRecursion Q names → AllByRecursion Q (first_of_each names)
firsts_all Q [] all = tt
firsts_all Q (name ∷ names) all = (
  all.0,
  all_filtered Q (λ other. not (same_name name other)) (first_of_each names) (firsts_all Q names all.1),
)

abbrev pub AreApart : Name → Name → Type 0
AreApart first second = same_name first second ≡ false

pub firsts_apart : (names : List Name) → Pairs AreApart (first_of_each names)
firsts_apart [] = tt
firsts_apart (name ∷ names) =
    let differs = λ (other : Name). not (same_name name other) in
    let firsts = first_of_each names in (
      to_all (AreApart name) (filter differs firsts)
          (λ other at. turned (same_name name other) (of_filter differs firsts other at).1),
      pairs_filtered AreApart differs firsts (firsts_apart names),
    )

-- what holds of each in each list
flat_all : {X Y : Type 0} (Q : Y → Type 0) (f : X → List Y) (xs : List X)
    → AllByRecursion (λ x. AllByRecursion Q (f x)) xs → AllByRecursion Q (flat_map f xs)
flat_all Q f [] all = tt
flat_all Q f (x ∷ xs) all = all_joined Q (f x) (flat_map f xs) all.0 (flat_all Q f xs all.1)

-- ---- names of the body

one_of_both : (inside before : Bool) (fault : FormFault) → faults_where (not inside && not before) fault ≡ []
    → (inside ≡ true) ⊎ (before ≡ true)
one_of_both true before fault e = inl refl
one_of_both false true fault e = inr refl
one_of_both false false fault e = cc (e)

module _ (body : List Name) where
  abbrev pub InBody : Name → Type 0
  InBody name = is_among body name ≡ true

  abbrev AreIn : List Name → Type 0
  AreIn names = AllByRecursion InBody names

  abbrev IsTermIn : Term → Type 0
  IsTermIn term = AreIn (term_variables term)

  abbrev AreTermsIn : List Term → Type 0
  AreTermsIn all = AllByRecursion IsTermIn all

  abbrev IsTupleIn : Condition → Type 0
  IsTupleIn (conditions.InSelect tuple select) = AreTermsIn tuple.terms
  IsTupleIn (conditions.InAnswer tuple relation) = Unit {0}
  IsTupleIn (conditions.Test test) = Unit {0}

  among : (names : List Name) (name : Name) → AreIn names → is_among names name ≡ true → InBody name
  among names name all e =
      let found = any_some (λ (other : Name). same_name other name) names e in
      subst InBody (equal_names found.0 name found.2) (of_all InBody names found.0 all found.1)

  noted_in : (earlier : List Name) (term : Term) → AreIn earlier → IsTermIn term → AreIn (noted earlier term)
  noted_in earlier (terms.Value value) before is = before
  noted_in earlier (terms.Variable variable) before is = by (is_among earlier variable.name)
    where
      by : (b : Bool) → AreIn (if b then earlier else (earlier ++ variable.name ∷ []))
      by true = before
      by false = all_joined InBody earlier (variable.name ∷ []) before is

  module _ (bound : Bound) where
    term_in : (earlier : List Name) (term : Term) → AreIn earlier → term_faults body bound earlier term ≡ []
        → IsTermIn term
    term_in earlier (terms.Value value) before e = tt
    term_in earlier (terms.Variable variable) before e =
        elim (one_of_both (is_among body variable.name) (is_among earlier variable.name) (Unbound variable.place) e) [
          | inl inside ↦ (inside, tt)
          | inr there ↦ (among earlier variable.name before there, tt)
        ]

    terms_in : (earlier : List Name) (all : List Term) → AreIn earlier → terms_faults body bound earlier all ≡ []
        → AreTermsIn all × AreIn (noted_terms earlier all)
    terms_in earlier [] before e = (tt, before)
    terms_in earlier (term ∷ more) before e =
        let own = term_faults body bound earlier term in
        let later = terms_faults body bound (noted earlier term) more in
        let here = term_in earlier term before (none_first own later e) in
        let rest = terms_in (noted earlier term) more (noted_in earlier term before here) (none_second own later e) in
        ((here, rest.0), rest.1)

    items_in : (taken earlier : List Name) (items : List EntangledItem) → AreIn earlier
        → offer_faults body bound taken earlier items ≡ []
        → AreTermsIn (map (λ (item : EntangledItem). item.term) items) × AreIn (noted_items earlier items)
    items_in taken earlier [] before e = (tt, before)
    items_in taken earlier (item ∷ more) before e =
        let own = term_faults body bound earlier item.term in
        let later = offer_faults body bound (taking taken item.binds) (noted earlier item.term) more in
        let first = none_first (own ++ binds_faults taken item.binds) later e in
        let here = term_in earlier item.term before (none_first own (binds_faults taken item.binds) first) in
        let rest = items_in (taking taken item.binds) (noted earlier item.term) more
        (noted_in earlier item.term before here)
        (none_second (own ++ binds_faults taken item.binds) later e) in
        ((here, rest.0), rest.1)

    conditions_in : (demanded : Bound) (earlier : List Name) (all : List Condition) → AllByRecursion IsTupleIn all
        → AreIn earlier → others_faults body demanded bound earlier all ≡ []
        → AllByRecursion (λ (condition : Condition). AreTermsIn (condition_terms condition)) all
    conditions_in demanded earlier [] tuples before e = tt
    conditions_in demanded earlier (conditions.InSelect tuple select ∷ more) tuples before e =
        (tuples.0, conditions_in demanded earlier more tuples.1 before e)
    conditions_in demanded earlier (conditions.InAnswer tuple relation ∷ more) tuples before e =
        let own = terms_faults body bound earlier tuple.terms in
        let later = others_faults body demanded bound (noted_terms earlier tuple.terms) more in
        let here = terms_in earlier tuple.terms before (none_first own later e) in (
          here.0,
          conditions_in demanded (noted_terms earlier tuple.terms) more tuples.1 here.1
              (none_second own later e),
        )
    conditions_in demanded earlier (conditions.Test test ∷ more) tuples before e =
        let left = term_faults body bound earlier test.left in
        let right = term_faults body bound (noted earlier test.left) test.right in
        let kinds = kinds_faults (term_kind demanded bound test.left) (term_kind demanded bound test.right)
        (WrongKind (term_place test.right)) in
        let later = others_faults body demanded bound (noted (noted earlier test.left) test.right) more in
        let own = none_first (left ++ (right ++ kinds)) later e in
        let first = term_in earlier test.left before (none_first left (right ++ kinds) own) in
        let between = noted_in earlier test.left before first in
        let second = term_in (noted earlier test.left) test.right between
        (none_first right kinds (none_second left (right ++ kinds) own)) in
        let behind = noted_in (noted earlier test.left) test.right between second in (
          (first, (second, tt)),
          conditions_in demanded (noted (noted earlier test.left) test.right) more tuples.1 behind
              (none_second (left ++ (right ++ kinds)) later e),
        )

-- ---- statements

tuple_in : (all : List Condition) (condition : Condition) → In condition all
    → IsTupleIn (body_variables all) condition
tuple_in all (conditions.InSelect tuple select) at =
    let body = body_variables all in
    to_all (IsTermIn body) tuple.terms (λ term there.
    to_all (InBody body) (term_variables term) (λ name here.
    any_in (λ (other : Name). same_name other name) body name
    (to_flat tuple_variables all (conditions.InSelect tuple select) name at
    (to_flat term_variables tuple.terms term name there here)) (name_itself name)))
tuple_in all (conditions.InAnswer tuple relation) at = tt
tuple_in all (conditions.Test test) at = tt

pub written_in_body : (tables : List TableSchema) (bound : Bound) (entangled : Entangled)
    → entangled_faults tables bound entangled ≡ []
    → AllByRecursion (InBody (body_variables entangled.conditions)) (written_variables entangled)
written_in_body tables bound entangled e =
    let all = entangled.conditions in
    let body = body_variables all in
    let demanded = demanded_from tables bound none_bound all in
    let members = memberships_faults tables bound none_bound all in
    let offer = offer_faults body bound [] [] entangled.items in
    let relations = repeated_names [] entangled.relations in
    let others = others_faults body demanded bound (noted_items [] entangled.items) all in
    let behind = none_second members (offer ++ (relations ++ others)) e in
    let items = items_in body bound [] [] entangled.items tt (none_first offer (relations ++ others) behind) in
    let own = conditions_in body bound demanded (noted_items [] entangled.items) all
    (to_all (IsTupleIn body) all (tuple_in all)) items.1
    (none_second relations others (none_second offer (relations ++ others) behind)) in
    let written = head_terms entangled ++ flat_map condition_terms all in
    firsts_all (InBody body) (flat_map term_variables written)
    (flat_all (InBody body) term_variables written
    (all_joined (IsTermIn body) (head_terms entangled) (flat_map condition_terms all) items.0
    (flat_all (IsTermIn body) condition_terms all own)))
