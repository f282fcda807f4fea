-- Trees in which each value that is known before any row is read, a literal or a host variable, is replaced by what a
-- function makes of it. All other parts stay, places included.
use Rattle.std.specs.Prelude.{List, map}
use Rattle.ent_tree.specs.declared.operand.ValueSpecification.{ValueSpecification}
use Rattle.ent_tree.specs.declared.operand.Operand.{Operand}
use Rattle.ent_tree.specs.declared.operand.Operand.TheVariants as operands
use Rattle.ent_tree.specs.declared.operand.Expression.{Expression}
use Rattle.ent_tree.specs.declared.operand.Expression.TheVariants.{Single, Sum, Difference}
use Rattle.ent_tree.specs.declared.operand.Test.{Test}
use Rattle.ent_tree.specs.declared.select.Items.{Items}
use Rattle.ent_tree.specs.declared.select.Items.TheVariants as items
use Rattle.ent_tree.specs.declared.select.Select.{Select}
use Rattle.ent_tree.specs.declared.entangled.Term.{Term}
use Rattle.ent_tree.specs.declared.entangled.Term.TheVariants as terms
use Rattle.ent_tree.specs.declared.entangled.EntangledItem.{EntangledItem}
use Rattle.ent_tree.specs.declared.entangled.Tuple.{Tuple}
use Rattle.ent_tree.specs.declared.entangled.Condition.{Condition}
use Rattle.ent_tree.specs.declared.entangled.Condition.TheVariants as conditions
use Rattle.ent_tree.specs.declared.entangled.Entangled.{Entangled}
use Rattle.ent_tree.specs.declared.statement.Insert.{Insert}
use Rattle.ent_tree.specs.declared.statement.Delete.{Delete}
use Rattle.ent_tree.specs.declared.statement.Assignment.{Assignment}
use Rattle.ent_tree.specs.declared.statement.Update.{Update}
use Rattle.ent_tree.specs.declared.statement.Set.{Set}
use Rattle.ent_tree.specs.declared.script.Statement.{Statement}
use Rattle.ent_tree.specs.declared.script.Statement.TheVariants as statements
use Rattle.ent_tree.specs.declared.script.Script.{Script}

-- what is made of a value
abbrev pub Making : Type 0
Making = ValueSpecification → ValueSpecification

abbrev pub operand_over : Making → Operand → Operand
operand_over making (operands.Value value) = operands.Value (making value)
operand_over making (operands.Column reference) = operands.Column reference

abbrev pub expression_over : {A : Type 0} → (A → A) → Expression A → Expression A
expression_over over (Single term) = Single (over term)
expression_over over (Sum left right) = Sum (over left) (over right)
expression_over over (Difference left right) = Difference (over left) (over right)

abbrev pub test_over : {A : Type 0} → (A → A) → Test A → Test A
test_over over test = record test { left = over test.left; right = over test.right }

-- ---- SELECT

abbrev pub items_over : Making → Items → Items
items_over making items.All = items.All
items_over making (items.Listed listed) = items.Listed (map (operand_over making) listed)

abbrev pub tests_over : Making → List (Test Operand) → List (Test Operand)
tests_over making = map (test_over (operand_over making))

abbrev pub select_over : Making → Select → Select
select_over making select =
    record select { items = items_over making select.items; tests = tests_over making select.tests }

-- ---- entangled SELECT

abbrev pub term_over : Making → Term → Term
term_over making (terms.Value value) = terms.Value (making value)
term_over making (terms.Variable variable) = terms.Variable variable

abbrev pub item_over : Making → EntangledItem → EntangledItem
item_over making item = record item { term = term_over making item.term }

abbrev pub tuple_over : Making → Tuple → Tuple
tuple_over making tuple = record tuple { terms = map (term_over making) tuple.terms }

abbrev pub condition_over : Making → Condition → Condition
condition_over making (conditions.InSelect tuple select) =
    conditions.InSelect (tuple_over making tuple) (select_over making select)
condition_over making (conditions.InAnswer tuple relation) = conditions.InAnswer (tuple_over making tuple) relation
condition_over making (conditions.Test test) = conditions.Test (test_over (term_over making) test)

abbrev pub entangled_over : Making → Entangled → Entangled
entangled_over making entangled = record entangled {
  items = map (item_over making) entangled.items;
  conditions = map (condition_over making) entangled.conditions;
}

-- ---- the other statements

abbrev pub insert_over : Making → Insert → Insert
insert_over making insert = record insert { values = map making insert.values }

abbrev pub delete_over : Making → Delete → Delete
delete_over making delete = record delete { tests = tests_over making delete.tests }

abbrev pub assignment_over : Making → Assignment → Assignment
assignment_over making assignment =
    record assignment { expression = expression_over (operand_over making) assignment.expression }

abbrev pub update_over : Making → Update → Update
update_over making update = record update {
  assignments = map (assignment_over making) update.assignments;
  tests = tests_over making update.tests;
}

abbrev pub set_over : Making → Set → Set
set_over making set = record set { expression = expression_over making set.expression }

-- ---- scripts

abbrev pub statement_over : Making → Statement → Statement
statement_over making (statements.Select select) = statements.Select (select_over making select)
statement_over making (statements.Entangled entangled) = statements.Entangled (entangled_over making entangled)
statement_over making (statements.Insert insert) = statements.Insert (insert_over making insert)
statement_over making (statements.Delete delete) = statements.Delete (delete_over making delete)
statement_over making (statements.Update update) = statements.Update (update_over making update)
statement_over making (statements.Set set) = statements.Set (set_over making set)

abbrev pub script_over : Making → Script → Script
script_over making script = record script { statements = map (statement_over making) script.statements }
