-- What an entangled statement offers, demands, answers and binds hangs on no place.
use Rattle.std.proofs.Common.{◌≡◌, ◌&&◌, ◌==◌, List, [], ◌∷◌, ◌++◌, length, map, flat_map, refl, ap, ◌∙◌, Option}
use Rattle.std.proofs.Common.{Some, None}
use Rattle.ent_lists.specs.Sets as set
use Rattle.ent_value.specs.declared.value.Value.{Value}
use Rattle.ent_tree.specs.Places.{unplaced_identifier, unplaced_term, unplaced_item, unplaced_condition}
use Rattle.ent_tree.specs.Places.{unplaced_entangled}
use Rattle.ent_tree.specs.declared.declaration.Create.{Create}
use Rattle.ent_tree.specs.declared.entangled.Condition.{Condition}
use Rattle.ent_tree.specs.declared.entangled.Condition.TheVariants as conditions
use Rattle.ent_tree.specs.declared.entangled.Entangled.{Entangled}
use Rattle.ent_tree.specs.declared.entangled.EntangledItem.{EntangledItem}
use Rattle.ent_tree.specs.declared.entangled.Term.{Term}
use Rattle.ent_tree.specs.declared.entangled.Term.TheVariants as terms
use Rattle.ent_tree.specs.declared.operand.Identifier.{Identifier}
use Rattle.ent_semantics.specs.Database.{Name, Database, Environment}
use Rattle.ent_semantics.specs.Entangled.{Valuation, first_of_each, term_variables, condition_terms, head_terms}
use Rattle.ent_semantics.specs.Entangled.{written_variables, variable_value, term_worth, facts, heads, condition_posts}
use Rattle.ent_semantics.specs.Entangled.{posts, condition_holds, is_grounding, item_binds, bound_values}
use Rattle.ent_program_laws.specs.Unplaced.{unplaced_create}
use Rattle.ent_program_laws.proofs.Through.{map_through, flat_through, all_through}
use Rattle.ent_program_laws.proofs.Terms.{known_same, test_same}
use Rattle.ent_program_laws.proofs.Selects.{select_same}

-- ---- written variables

pub term_variables_same : (term : Term) → term_variables (unplaced_term term) ≡ term_variables term
term_variables_same (terms.Value value) = refl
term_variables_same (terms.Variable variable) = refl

condition_terms_are : (condition : Condition)
    → condition_terms (unplaced_condition condition) ≡ map unplaced_term (condition_terms condition)
condition_terms_are (conditions.InSelect tuple select) = refl
condition_terms_are (conditions.InAnswer tuple relation) = refl
condition_terms_are (conditions.Test test) = refl

item_terms_are : (items : List EntangledItem) → map (λ (item : EntangledItem). item.term) (map unplaced_item items)
    ≡ map unplaced_term (map (λ (item : EntangledItem). item.term) items)
item_terms_are [] = refl
item_terms_are (item ∷ more) = ap (λ (rest : List Term). unplaced_term item.term ∷ rest) (item_terms_are more)

-- the variables of terms, before others
variables_before : (terms others bare : List Term) → flat_map term_variables bare ≡ flat_map term_variables others
    → flat_map term_variables (map unplaced_term terms ++ bare) ≡ flat_map term_variables (terms ++ others)
variables_before [] others bare same = same
variables_before (term ∷ more) others bare same =
    let rest = variables_before more others bare same in λ i. term_variables_same term i ++ rest i

condition_variables_same : (conditions : List Condition)
    → flat_map term_variables (flat_map condition_terms (map unplaced_condition conditions))
    ≡ flat_map term_variables (flat_map condition_terms conditions)
condition_variables_same [] = refl
condition_variables_same (condition ∷ more) =
    ap (λ (terms : List Term).
    flat_map term_variables (terms ++ flat_map condition_terms (map unplaced_condition more)))
    (condition_terms_are condition)
    ∙ variables_before (condition_terms condition) (flat_map condition_terms more)
    (flat_map condition_terms (map unplaced_condition more)) (condition_variables_same more)

pub variables_same : (entangled : Entangled)
    → written_variables (unplaced_entangled entangled) ≡ written_variables entangled
variables_same entangled =
    ap first_of_each
    (ap (λ (terms : List Term).
    flat_map term_variables (terms ++ flat_map condition_terms (map unplaced_condition entangled.conditions)))
    (item_terms_are entangled.items)
    ∙ variables_before (head_terms entangled) (flat_map condition_terms entangled.conditions)
    (flat_map condition_terms (map unplaced_condition entangled.conditions))
    (condition_variables_same entangled.conditions))

-- ---- under a valuation

pub term_worth_same : (environment : Environment) (entangled : Entangled) (valuation : Valuation) (term : Term)
    → term_worth environment (unplaced_entangled entangled) valuation (unplaced_term term)
    ≡ term_worth environment entangled valuation term
term_worth_same environment entangled valuation (terms.Value value) = known_same environment value
term_worth_same environment entangled valuation (terms.Variable variable) =
    ap (λ (names : List Name). variable_value names valuation variable.name) (variables_same entangled)

module _ (f g : Term → Value) (same : (term : Term) → f (unplaced_term term) ≡ g term) where
  condition_posts_same : (condition : Condition)
      → condition_posts f (unplaced_condition condition) ≡ condition_posts g condition
  condition_posts_same (conditions.InSelect tuple select) = refl
  condition_posts_same (conditions.InAnswer tuple relation) =
      ap (λ (values : List Value). record { relation = relation.name; values = values } ∷ [])
      (map_through unplaced_term f g same tuple.terms)
  condition_posts_same (conditions.Test test) = refl

  condition_same : (declared : List Create) (database : Database) (environment : Environment) (condition : Condition)
      → condition_holds (map unplaced_create declared) database environment f (unplaced_condition condition)
      ≡ condition_holds declared database environment g condition
  condition_same declared database environment (conditions.InSelect tuple select) =
      let rows = select_same declared environment select database in
      let values = map_through unplaced_term f g same tuple.terms in
      λ i. set.contains (rows i) (values i)
  condition_same declared database environment (conditions.InAnswer tuple relation) = refl
  condition_same declared database environment (conditions.Test test) = test_same unplaced_term f g same test

  binds_same : (term : Term) (binds : Option Identifier)
      → item_binds f (unplaced_item (record { term = term; binds = binds }))
      ≡ item_binds g (record { term = term; binds = binds })
  binds_same term None = refl
  binds_same term (Some variable) = ap (λ (value : Value). (variable.name, value) ∷ []) (same term)

module _ (environment : Environment) (entangled : Entangled) (valuation : Valuation) where
  abbrev worth : Term → Value
  worth = term_worth environment entangled valuation

  abbrev bare_worth : Term → Value
  bare_worth = term_worth environment (unplaced_entangled entangled) valuation

  abbrev same : (term : Term) → bare_worth (unplaced_term term) ≡ worth term
  same = term_worth_same environment entangled valuation

  pub heads_same : heads environment (unplaced_entangled entangled) valuation ≡ heads environment entangled valuation
  heads_same =
      let relations = map_through unplaced_identifier (λ relation. relation.name) (λ relation. relation.name)
      (λ relation. refl) entangled.relations in
      let values = ap (map bare_worth) (item_terms_are entangled.items)
      ∙ map_through unplaced_term bare_worth worth same (head_terms entangled) in
      λ i. facts (relations i) (values i)

  pub posts_same : posts environment (unplaced_entangled entangled) valuation ≡ posts environment entangled valuation
  posts_same =
      flat_through unplaced_condition (condition_posts bare_worth) (condition_posts worth)
      (condition_posts_same bare_worth worth same) entangled.conditions

  pub grounding_same : (declared : List Create) (database : Database)
      → is_grounding (map unplaced_create declared) database environment (unplaced_entangled entangled) valuation
      ≡ is_grounding declared database environment entangled valuation
  grounding_same declared database =
      let names = variables_same entangled in
      let holding = all_through unplaced_condition
      (condition_holds (map unplaced_create declared) database environment bare_worth)
      (condition_holds declared database environment worth)
      (condition_same bare_worth worth same declared database environment) entangled.conditions in
      λ i. (length valuation == length (names i)) && holding i

  pub bound_values_same : bound_values environment (unplaced_entangled entangled) valuation
      ≡ bound_values environment entangled valuation
  bound_values_same =
      flat_through unplaced_item (item_binds bare_worth) (item_binds worth)
      (λ item. binds_same bare_worth worth same item.term item.binds) entangled.items
