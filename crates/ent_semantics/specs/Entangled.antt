-- Entangled statements: their written variables, and what they offer, demand, answer and bind under a valuation.
use Rattle.std.specs.Prelude.{Bool, true, not, ◌&&◌, ◌==◌, List, [], ◌∷◌, ◌++◌, length, map, Option, Some, None}
use Rattle.std.specs.Prelude.{if◌then◌else◌}
use Rattle.std.specs.List.{filter, flat_map, list_all}
use Rattle.ent_lists.specs.Sets as set
use Rattle.ent_value.specs.declared.value.Value.{Value}
use Rattle.ent_tree.specs.declared.declaration.Create.{Create}
use Rattle.ent_tree.specs.declared.entangled.Condition.{Condition}
use Rattle.ent_tree.specs.declared.entangled.Condition.TheVariants as conditions
use Rattle.ent_tree.specs.declared.entangled.Entangled.{Entangled}
use Rattle.ent_tree.specs.declared.entangled.EntangledItem.{EntangledItem}
use Rattle.ent_tree.specs.declared.entangled.Term.{Term}
use Rattle.ent_tree.specs.declared.entangled.Term.TheVariants as terms
use Rattle.ent_tree.specs.declared.operand.Identifier.{Identifier}
use Rattle.ent_semantics.specs.declared.answer.Fact.{Fact}
use Rattle.ent_semantics.specs.Database.{Name, Database, Environment, same_name}
use Rattle.ent_semantics.specs.Selection.{holds, select_rows}
use Rattle.ent_semantics.specs.Term.{known_value, no_value}

-- a value for each written variable of a statement, in the order of their first appearance
abbrev pub Valuation : Type 0
Valuation = List Value

-- each name where it comes first
abbrev pub first_of_each : List Name → List Name
first_of_each [] = []
first_of_each (name ∷ names) = name ∷ filter (λ other. not (same_name name other)) (first_of_each names)

abbrev pub term_variables : Term → List Name
term_variables (terms.Value value) = []
term_variables (terms.Variable variable) = variable.name ∷ []

-- the terms of a condition, in order of the text; those of a sub-select are its own
abbrev pub condition_terms : Condition → List Term
condition_terms (conditions.InSelect tuple select) = tuple.terms
condition_terms (conditions.InAnswer tuple relation) = tuple.terms
condition_terms (conditions.Test test) = test.left ∷ test.right ∷ []

-- the select list
abbrev pub head_terms : Entangled → List Term
head_terms entangled = map (λ item. item.term) entangled.items

-- the written variables, in order of their first appearance
abbrev pub written_variables : Entangled → List Name
written_variables entangled =
    first_of_each (flat_map term_variables (head_terms entangled ++ flat_map condition_terms entangled.conditions))

-- the value of a variable
abbrev pub variable_value : List Name → Valuation → Name → Value
variable_value [] valuation name = no_value
variable_value (variable ∷ variables) [] name = no_value
variable_value (variable ∷ variables) (value ∷ values) name =
    if same_name variable name then value else variable_value variables values name

abbrev pub term_value : Environment → (Name → Value) → Term → Value
term_value environment variables (terms.Value value) = known_value environment value
term_value environment variables (terms.Variable variable) = variables variable.name

-- what the terms of a statement are worth under a valuation
abbrev pub term_worth : Environment → Entangled → Valuation → Term → Value
term_worth environment entangled valuation =
    term_value environment (variable_value (written_variables entangled) valuation)

-- one row in each of some answer relations
abbrev pub facts : List Name → List Value → List Fact
facts relations values = map (λ relation. record { relation = relation; values = values }) relations

-- the select list's values, in each relation that is named
abbrev pub heads : Environment → Entangled → Valuation → List Fact
heads environment entangled valuation =
    facts (map (λ relation. relation.name) entangled.relations)
    (map (term_worth environment entangled valuation) (head_terms entangled))

-- the postcondition that a condition is, where it is one
abbrev pub condition_posts : (Term → Value) → Condition → List Fact
condition_posts worth (conditions.InSelect tuple select) = []
condition_posts worth (conditions.InAnswer tuple relation) =
    record { relation = relation.name; values = map worth tuple.terms } ∷ []
condition_posts worth (conditions.Test test) = []

-- what is demanded of the answer relations
abbrev pub posts : Environment → Entangled → Valuation → List Fact
posts environment entangled valuation =
    flat_map (condition_posts (term_worth environment entangled valuation)) entangled.conditions

-- a condition of the body holds: a tuple is a row of its sub-select's result, a test is true
abbrev pub condition_holds : List Create → Database → Environment → (Term → Value) → Condition → Bool
condition_holds declared database environment worth (conditions.InSelect tuple select) =
    set.contains (select_rows declared database environment select) (map worth tuple.terms)
condition_holds declared database environment worth (conditions.InAnswer tuple relation) = true
condition_holds declared database environment worth (conditions.Test test) = holds worth test

-- A value for exactly the written variables, under which each condition of the body holds. In a statement without a
-- fault of form each variable stands in a tuple that is a row of a sub-select's result, so that its value has its kind.
abbrev pub is_grounding : List Create → Database → Environment → Entangled → Valuation → Bool
is_grounding declared database environment entangled valuation =
    (length valuation == length (written_variables entangled))
    && list_all (condition_holds declared database environment (term_worth environment entangled valuation))
    entangled.conditions

-- the host variable that an item binds, and its value
abbrev pub item_binds : (Term → Value) → EntangledItem → List (Name × Value)
item_binds worth item = bound_to item.binds (worth item.term)
  where
    bound_to : Option Identifier → Value → List (Name × Value)
    bound_to (Some variable) value = (variable.name, value) ∷ []
    bound_to None value = []

-- the host variables that are bound after the answer; inside the statement they have their earlier values
abbrev pub bound_values : Environment → Entangled → Valuation → List (Name × Value)
bound_values environment entangled valuation =
    flat_map (item_binds (term_worth environment entangled valuation)) entangled.items
