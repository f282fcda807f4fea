-- The values of a script that are known before any row is read, literals and host variables, in order of the text; and
-- which host variables a script uses and which it sets.
use Rattle.std.specs.Prelude.{Bool, false, List, [], ◌∷◌, ◌++◌, Option, Some, None}
use Rattle.std.specs.List.{flat_map, list_any}
use Rattle.ent_tree.specs.declared.operand.Identifier.{Identifier}
use Rattle.ent_tree.specs.declared.operand.ValueSpecification.{ValueSpecification}
use Rattle.ent_tree.specs.declared.operand.ValueSpecification.TheVariants as specifications
use Rattle.ent_tree.specs.declared.operand.Operand.{Operand}
use Rattle.ent_tree.specs.declared.operand.Operand.TheVariants as operands
use Rattle.ent_tree.specs.declared.operand.Expression.{Expression}
use Rattle.ent_tree.specs.declared.operand.Expression.TheVariants.{Single, Sum, Difference}
use Rattle.ent_tree.specs.declared.operand.Test.{Test}
use Rattle.ent_tree.specs.declared.select.Items.{Items}
use Rattle.ent_tree.specs.declared.select.Items.TheVariants as items
use Rattle.ent_tree.specs.declared.select.Select.{Select}
use Rattle.ent_tree.specs.declared.entangled.Term.{Term}
use Rattle.ent_tree.specs.declared.entangled.Term.TheVariants as terms
use Rattle.ent_tree.specs.declared.entangled.EntangledItem.{EntangledItem}
use Rattle.ent_tree.specs.declared.entangled.Tuple.{Tuple}
use Rattle.ent_tree.specs.declared.entangled.Condition.{Condition}
use Rattle.ent_tree.specs.declared.entangled.Condition.TheVariants as conditions
use Rattle.ent_tree.specs.declared.entangled.Entangled.{Entangled}
use Rattle.ent_tree.specs.declared.statement.Assignment.{Assignment}
use Rattle.ent_tree.specs.declared.statement.Update.{Update}
use Rattle.ent_tree.specs.declared.statement.Set.{Set}
use Rattle.ent_tree.specs.declared.script.Statement.{Statement}
use Rattle.ent_tree.specs.declared.script.Statement.TheVariants as statements
use Rattle.ent_tree.specs.declared.script.Script.{Script}
use Rattle.ent_semantics.specs.Database.{Name, same_name, is_among}

-- ---- what a script uses

abbrev pub Values : Type 0
Values = List ValueSpecification

abbrev pub operand_values : Operand → Values
operand_values (operands.Value value) = value ∷ []
operand_values (operands.Column reference) = []

abbrev pub expression_values : {A : Type 0} → (A → Values) → Expression A → Values
expression_values values (Single term) = values term
expression_values values (Sum left right) = values left ++ values right
expression_values values (Difference left right) = values left ++ values right

abbrev pub test_values : {A : Type 0} → (A → Values) → Test A → Values
test_values values test = values test.left ++ values test.right

abbrev pub items_values : Items → Values
items_values items.All = []
items_values (items.Listed listed) = flat_map operand_values listed

abbrev pub tests_values : List (Test Operand) → Values
tests_values = flat_map (test_values operand_values)

abbrev pub select_values : Select → Values
select_values select = items_values select.items ++ tests_values select.tests

abbrev pub term_values : Term → Values
term_values (terms.Value value) = value ∷ []
term_values (terms.Variable variable) = []

abbrev pub item_values : EntangledItem → Values
item_values item = term_values item.term

abbrev pub tuple_values : Tuple → Values
tuple_values tuple = flat_map term_values tuple.terms

abbrev pub condition_values : Condition → Values
condition_values (conditions.InSelect tuple select) = tuple_values tuple ++ select_values select
condition_values (conditions.InAnswer tuple relation) = tuple_values tuple
condition_values (conditions.Test test) = test_values term_values test

abbrev pub entangled_values : Entangled → Values
entangled_values entangled =
    flat_map item_values entangled.items ++ flat_map condition_values entangled.conditions

abbrev pub assignment_values : Assignment → Values
assignment_values assignment = expression_values operand_values assignment.expression

abbrev pub update_values : Update → Values
update_values update = flat_map assignment_values update.assignments ++ tests_values update.tests

abbrev pub set_values : Set → Values
set_values set = expression_values (λ value. value ∷ []) set.expression

abbrev pub statement_values : Statement → Values
statement_values (statements.Select select) = select_values select
statement_values (statements.Entangled entangled) = entangled_values entangled
statement_values (statements.Insert insert) = insert.values
statement_values (statements.Delete delete) = tests_values delete.tests
statement_values (statements.Update update) = update_values update
statement_values (statements.Set set) = set_values set

abbrev pub script_values : Script → Values
script_values script = flat_map statement_values script.statements

-- the host variable of this name
abbrev pub is_variable : Name → ValueSpecification → Bool
is_variable name (specifications.Literal literal) = false
is_variable name (specifications.HostVariable variable) = same_name variable.name name

-- the script uses the host variable of this name
abbrev pub is_used : Script → Name → Bool
is_used script name = list_any (is_variable name) (script_values script)

-- ---- what a script sets

abbrev pub item_sets : EntangledItem → List Name
item_sets item = names item.binds
  where
    names : Option Identifier → List Name
    names (Some variable) = variable.name ∷ []
    names None = []

-- the host variables that a statement gives values: by SET, or by the AS of entangled items
abbrev pub statement_sets : Statement → List Name
statement_sets (statements.Set set) = set.variable.name ∷ []
statement_sets (statements.Entangled entangled) = flat_map item_sets entangled.items
statement_sets other = []

-- the script gives the host variable of this name a value itself
abbrev pub is_set : Script → Name → Bool
is_set script name = is_among (flat_map statement_sets script.statements) name
