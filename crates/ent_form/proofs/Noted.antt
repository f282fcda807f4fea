-- The variables of a statement: those of its terms, each once.
use Rattle.std.proofs.Common.{◌≡◌, true, false, List, [], ◌∷◌, ◌++◌, refl, ◌∙◌}
use Rattle.std.specs.Prelude.{if◌then◌else◌}
use Rattle.std.specs.List.{AllByRecursion, IsDistinct}
use Rattle.std.proofs.lemmas.Bool.{or_parts}
use Rattle.std.proofs.lemmas.List.Folds.{list_any-append}
use Rattle.ent_lists.specs.Elements.{or_first, or_second}
use Rattle.ent_tree.specs.declared.entangled.Condition.{Condition}
use Rattle.ent_tree.specs.declared.entangled.Condition.TheVariants as conditions
use Rattle.ent_tree.specs.declared.entangled.Entangled.{Entangled as TreeEntangled}
use Rattle.ent_tree.specs.declared.entangled.EntangledItem.{EntangledItem}
use Rattle.ent_tree.specs.declared.entangled.Term.{Term}
use Rattle.ent_tree.specs.declared.entangled.Term.TheVariants as terms
use Rattle.ent_semantics.specs.Database.{Name, same_name, is_among}
use Rattle.ent_semantics.specs.Entangled.{condition_terms}
use Rattle.ent_semantics.specs.Names.{name_itself}
use Rattle.ent_form.specs.Entangled.{noted, noted_terms, noted_items, noted_condition, noted_conditions}
use Rattle.ent_form.specs.Entangled.{variables_of}

-- what holds of the variable of a term, if it has one
abbrev pub OfVariable : (Name → Type 0) → Term → Type 0
OfVariable P (terms.Value value) = Unit {0}
OfVariable P (terms.Variable variable) = P variable.name

abbrev pub OfVariables : (Name → Type 0) → List Term → Type 0
OfVariables P all = AllByRecursion (OfVariable P) all

abbrev pub OfItems : (Name → Type 0) → List EntangledItem → Type 0
OfItems P items = AllByRecursion (λ item. OfVariable P item.term) items

abbrev pub OfConditions : (Name → Type 0) → List Condition → Type 0
OfConditions P all = AllByRecursion (λ condition. OfVariables P (condition_terms condition)) all

-- ---- a name that was noted stays

abbrev IsAmong : List Name → Name → Type 0
IsAmong names name = is_among names name ≡ true

term_keeps : (names : List Name) (term : Term) (name : Name) → IsAmong names name → IsAmong (noted names term) name
term_keeps names (terms.Value value) name h = h
term_keeps names (terms.Variable variable) name h =
    elim (is_among names variable.name) as (λ b.
    IsAmong (if b then names else (names ++ variable.name ∷ [])) name) [
      | true ↦ h
      | false ↦ list_any-append (λ other. same_name other name) names (variable.name ∷ []) ∙ or_first _ _ h
    ]

terms_keep : (all : List Term) (names : List Name) (name : Name) → IsAmong names name
    → IsAmong (noted_terms names all) name
terms_keep [] names name h = h
terms_keep (term ∷ more) names name h = terms_keep more (noted names term) name (term_keeps names term name h)

items_keep : (items : List EntangledItem) (names : List Name) (name : Name) → IsAmong names name
    → IsAmong (noted_items names items) name
items_keep [] names name h = h
items_keep (item ∷ more) names name h = items_keep more (noted names item.term) name (term_keeps names item.term name h)

condition_keeps : (condition : Condition) (names : List Name) (name : Name) → IsAmong names name
    → IsAmong (noted_condition names condition) name
condition_keeps (conditions.InSelect tuple select) names name h = terms_keep tuple.terms names name h
condition_keeps (conditions.InAnswer tuple relation) names name h = terms_keep tuple.terms names name h
condition_keeps (conditions.Test test) names name h =
    term_keeps (noted names test.left) test.right name (term_keeps names test.left name h)

pub conditions_keep : (all : List Condition) (names : List Name) (name : Name) → IsAmong names name
    → IsAmong (noted_conditions names all) name
conditions_keep [] names name h = h
conditions_keep (condition ∷ more) names name h =
    conditions_keep more (noted_condition names condition) name (condition_keeps condition names name h)

-- ---- the variables of items are noted

term_noted : (names : List Name) (term : Term) → OfVariable (IsAmong (noted names term)) term
term_noted names (terms.Value value) = tt
term_noted names (terms.Variable variable) =
    elim (is_among names variable.name) as (λ b. is_among names variable.name ≡ b
    → IsAmong (if b then names else (names ++ variable.name ∷ [])) variable.name) [
      | true ↦ λ e. e
      | false ↦ λ _. list_any-append (λ other. same_name other variable.name) names (variable.name ∷ [])
          ∙ or_second _ _ (or_first _ _ (name_itself variable.name))
    ] refl

pub variable_weaker : (P Q : Name → Type 0) → ((name : Name) → P name → Q name) → (term : Term) → OfVariable P term
    → OfVariable Q term
variable_weaker P Q each (terms.Value value) h = tt
variable_weaker P Q each (terms.Variable variable) h = each variable.name h

pub items_weaker : (P Q : Name → Type 0) → ((name : Name) → P name → Q name) → (items : List EntangledItem)
    → OfItems P items → OfItems Q items
items_weaker P Q each [] h = tt
items_weaker P Q each (item ∷ more) h = (variable_weaker P Q each item.term h.0, items_weaker P Q each more h.1)

pub terms_weaker : (P Q : Name → Type 0) → ((name : Name) → P name → Q name) → (all : List Term) → OfVariables P all
    → OfVariables Q all
terms_weaker P Q each [] h = tt
terms_weaker P Q each (term ∷ more) h = (variable_weaker P Q each term h.0, terms_weaker P Q each more h.1)

pub items_noted : (items : List EntangledItem) (names : List Name) → OfItems (IsAmong (noted_items names items)) items
items_noted [] names = tt
items_noted (item ∷ more) names = (
  variable_weaker (IsAmong (noted names item.term)) (IsAmong (noted_items (noted names item.term) more))
      (items_keep more (noted names item.term)) item.term (term_noted names item.term),
  items_noted more (noted names item.term),
)

-- ---- what holds of the variables of all terms holds of all that is noted

all_behind : (P : Name → Type 0) (names : List Name) (name : Name) → AllByRecursion P names → P name
    → AllByRecursion P (names ++ name ∷ [])
all_behind P [] name h k = (k, tt)
all_behind P (first ∷ names) name h k = (h.0, all_behind P names name h.1 k)

module _ (P : Name → Type 0) where
  term_all : (names : List Name) (term : Term) → AllByRecursion P names → OfVariable P term
      → AllByRecursion P (noted names term)
  term_all names (terms.Value value) h k = h
  term_all names (terms.Variable variable) h k =
      elim (is_among names variable.name) as (λ b.
      AllByRecursion P (if b then names else (names ++ variable.name ∷ []))) [
        | true ↦ h
        | false ↦ all_behind P names variable.name h k
      ]

  terms_all : (all : List Term) (names : List Name) → AllByRecursion P names → OfVariables P all
      → AllByRecursion P (noted_terms names all)
  terms_all [] names h k = h
  terms_all (term ∷ more) names h k = terms_all more (noted names term) (term_all names term h k.0) k.1

  items_all : (items : List EntangledItem) (names : List Name) → AllByRecursion P names → OfItems P items
      → AllByRecursion P (noted_items names items)
  items_all [] names h k = h
  items_all (item ∷ more) names h k = items_all more (noted names item.term) (term_all names item.term h k.0) k.1

  condition_all : (condition : Condition) (names : List Name) → AllByRecursion P names
      → OfVariables P (condition_terms condition) → AllByRecursion P (noted_condition names condition)
  condition_all (conditions.InSelect tuple select) names h k = terms_all tuple.terms names h k
  condition_all (conditions.InAnswer tuple relation) names h k = terms_all tuple.terms names h k
  condition_all (conditions.Test test) names h k =
      term_all (noted names test.left) test.right (term_all names test.left h k.0) k.1.0

  conditions_all : (all : List Condition) (names : List Name) → AllByRecursion P names → OfConditions P all
      → AllByRecursion P (noted_conditions names all)
  conditions_all [] names h k = h
  conditions_all (condition ∷ more) names h k =
      conditions_all more (noted_condition names condition) (condition_all condition names h k.0) k.1

-- ---- each is noted once

apart_behind : (names : List Name) (name : Name) → IsDistinct same_name names → is_among names name ≡ false
    → IsDistinct same_name (names ++ name ∷ [])
unfolding IsDistinct
apart_behind [] name h none = (tt, tt)
apart_behind (first ∷ names) name h none =
    let both = or_parts (same_name first name) _ none in
    (all_behind (λ other. same_name first other ≡ false) names name h.0 both.0, apart_behind names name h.1 both.1)

term_once : (names : List Name) (term : Term) → IsDistinct same_name names → IsDistinct same_name (noted names term)
term_once names (terms.Value value) h = h
term_once names (terms.Variable variable) h =
    elim (is_among names variable.name) as (λ b. is_among names variable.name ≡ b
    → IsDistinct same_name (if b then names else (names ++ variable.name ∷ []))) [
      | true ↦ λ _. h
      | false ↦ λ none. apart_behind names variable.name h none
    ] refl

terms_once : (all : List Term) (names : List Name) → IsDistinct same_name names
    → IsDistinct same_name (noted_terms names all)
terms_once [] names h = h
terms_once (term ∷ more) names h = terms_once more (noted names term) (term_once names term h)

items_once : (items : List EntangledItem) (names : List Name) → IsDistinct same_name names
    → IsDistinct same_name (noted_items names items)
items_once [] names h = h
items_once (item ∷ more) names h = items_once more (noted names item.term) (term_once names item.term h)

condition_once : (condition : Condition) (names : List Name) → IsDistinct same_name names
    → IsDistinct same_name (noted_condition names condition)
condition_once (conditions.InSelect tuple select) names h = terms_once tuple.terms names h
condition_once (conditions.InAnswer tuple relation) names h = terms_once tuple.terms names h
condition_once (conditions.Test test) names h =
    term_once (noted names test.left) test.right (term_once names test.left h)

conditions_once : (all : List Condition) (names : List Name) → IsDistinct same_name names
    → IsDistinct same_name (noted_conditions names all)
conditions_once [] names h = h
conditions_once (condition ∷ more) names h =
    conditions_once more (noted_condition names condition) (condition_once condition names h)

-- ---- the variables of a statement

pub variables_all : (P : Name → Type 0) (entangled : TreeEntangled) → OfItems P entangled.items
    → OfConditions P entangled.conditions → AllByRecursion P (variables_of entangled)
variables_all P entangled of_items of_conditions =
    conditions_all P entangled.conditions (noted_items [] entangled.items)
    (items_all P entangled.items [] tt of_items) of_conditions

none_twice : IsDistinct same_name []
unfolding IsDistinct
none_twice = tt

pub variables_once : (entangled : TreeEntangled) → IsDistinct same_name (variables_of entangled)
variables_once entangled =
    conditions_once entangled.conditions (noted_items [] entangled.items) (items_once entangled.items [] none_twice)
