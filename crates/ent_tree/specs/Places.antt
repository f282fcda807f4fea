-- Where values and terms stand, and trees with their places left aside: each place is 0, so that trees that say the
-- same are equal.
use Rattle.std.specs.Prelude.{ℕ, List, map}
use Rattle.std.specs.Option.{option_map}
use Rattle.ent_tree.specs.declared.operand.Identifier.{Identifier}
use Rattle.ent_tree.specs.declared.operand.Literal.{Literal}
use Rattle.ent_tree.specs.declared.operand.ValueSpecification.{ValueSpecification}
use Rattle.ent_tree.specs.declared.operand.ValueSpecification.TheVariants as specifications
use Rattle.ent_tree.specs.declared.operand.ColumnReference.{ColumnReference}
use Rattle.ent_tree.specs.declared.operand.Operand.{Operand}
use Rattle.ent_tree.specs.declared.operand.Operand.TheVariants as operands
use Rattle.ent_tree.specs.declared.operand.Expression.{Expression}
use Rattle.ent_tree.specs.declared.operand.Expression.TheVariants.{Single, Sum, Difference}
use Rattle.ent_tree.specs.declared.operand.Test.{Test}
use Rattle.ent_tree.specs.declared.select.Source.{Source}
use Rattle.ent_tree.specs.declared.select.Items.{Items}
use Rattle.ent_tree.specs.declared.select.Items.TheVariants as items
use Rattle.ent_tree.specs.declared.select.Select.{Select}
use Rattle.ent_tree.specs.declared.entangled.Term.{Term}
use Rattle.ent_tree.specs.declared.entangled.Term.TheVariants as terms
use Rattle.ent_tree.specs.declared.entangled.EntangledItem.{EntangledItem}
use Rattle.ent_tree.specs.declared.entangled.Tuple.{Tuple}
use Rattle.ent_tree.specs.declared.entangled.Condition.{Condition}
use Rattle.ent_tree.specs.declared.entangled.Condition.TheVariants as conditions
use Rattle.ent_tree.specs.declared.entangled.Entangled.{Entangled}
use Rattle.ent_tree.specs.declared.statement.Insert.{Insert}
use Rattle.ent_tree.specs.declared.statement.Delete.{Delete}
use Rattle.ent_tree.specs.declared.statement.Assignment.{Assignment}
use Rattle.ent_tree.specs.declared.statement.Update.{Update}
use Rattle.ent_tree.specs.declared.statement.Set.{Set}
use Rattle.ent_tree.specs.declared.script.Statement.{Statement}
use Rattle.ent_tree.specs.declared.script.Statement.TheVariants as statements
use Rattle.ent_tree.specs.declared.script.Script.{Script}

abbrev pub value_place : ValueSpecification → ℕ
value_place (specifications.Literal literal) = literal.place
value_place (specifications.HostVariable variable) = variable.place

abbrev pub term_place : Term → ℕ
term_place (terms.Value value) = value_place value
term_place (terms.Variable variable) = variable.place

abbrev pub unplaced_identifier : Identifier → Identifier
unplaced_identifier identifier = record { name = identifier.name; place = 0 }

abbrev pub unplaced_literal : Literal → Literal
unplaced_literal literal = record { value = literal.value; place = 0 }

abbrev pub unplaced_specification : ValueSpecification → ValueSpecification
unplaced_specification (specifications.Literal literal) = specifications.Literal (unplaced_literal literal)
unplaced_specification (specifications.HostVariable variable) =
    specifications.HostVariable (unplaced_identifier variable)

abbrev pub unplaced_column : ColumnReference → ColumnReference
unplaced_column reference = record {
  qualifier = option_map unplaced_identifier reference.qualifier;
  column = unplaced_identifier reference.column;
}

abbrev pub unplaced_operand : Operand → Operand
unplaced_operand (operands.Value value) = operands.Value (unplaced_specification value)
unplaced_operand (operands.Column reference) = operands.Column (unplaced_column reference)

abbrev pub unplaced_expression : {A : Type 0} → (A → A) → Expression A → Expression A
unplaced_expression unplaced (Single term) = Single (unplaced term)
unplaced_expression unplaced (Sum left right) = Sum (unplaced left) (unplaced right)
unplaced_expression unplaced (Difference left right) = Difference (unplaced left) (unplaced right)

abbrev pub unplaced_test : {A : Type 0} → (A → A) → Test A → Test A
unplaced_test unplaced test = record {
  left = unplaced test.left;
  comparison = test.comparison;
  right = unplaced test.right;
}

-- ---- SELECT

abbrev pub unplaced_source : Source → Source
unplaced_source source = record {
  table = unplaced_identifier source.table;
  alias = option_map unplaced_identifier source.alias;
}

abbrev pub unplaced_items : Items → Items
unplaced_items items.All = items.All
unplaced_items (items.Listed listed) = items.Listed (map unplaced_operand listed)

abbrev pub unplaced_tests : List (Test Operand) → List (Test Operand)
unplaced_tests = map (unplaced_test unplaced_operand)

abbrev pub unplaced_select : Select → Select
unplaced_select select = record {
  items = unplaced_items select.items;
  sources = map unplaced_source select.sources;
  tests = unplaced_tests select.tests;
}

-- ---- entangled SELECT

abbrev pub unplaced_term : Term → Term
unplaced_term (terms.Value value) = terms.Value (unplaced_specification value)
unplaced_term (terms.Variable variable) = terms.Variable (unplaced_identifier variable)

abbrev pub unplaced_item : EntangledItem → EntangledItem
unplaced_item item = record {
  term = unplaced_term item.term;
  binds = option_map unplaced_identifier item.binds;
}

abbrev pub unplaced_tuple : Tuple → Tuple
unplaced_tuple tuple = record { place = 0; terms = map unplaced_term tuple.terms }

abbrev pub unplaced_condition : Condition → Condition
unplaced_condition (conditions.InSelect tuple select) =
    conditions.InSelect (unplaced_tuple tuple) (unplaced_select select)
unplaced_condition (conditions.InAnswer tuple relation) =
    conditions.InAnswer (unplaced_tuple tuple) (unplaced_identifier relation)
unplaced_condition (conditions.Test test) = conditions.Test (unplaced_test unplaced_term test)

abbrev pub unplaced_entangled : Entangled → Entangled
unplaced_entangled entangled = record {
  items = map unplaced_item entangled.items;
  place = 0;
  relations = map unplaced_identifier entangled.relations;
  conditions = map unplaced_condition entangled.conditions;
}

-- ---- the other statements

abbrev pub unplaced_insert : Insert → Insert
unplaced_insert insert = record {
  table = unplaced_identifier insert.table;
  place = 0;
  values = map unplaced_specification insert.values;
}

abbrev pub unplaced_delete : Delete → Delete
unplaced_delete delete = record {
  table = unplaced_identifier delete.table;
  tests = unplaced_tests delete.tests;
}

abbrev pub unplaced_assignment : Assignment → Assignment
unplaced_assignment assignment = record {
  column = unplaced_identifier assignment.column;
  expression = unplaced_expression unplaced_operand assignment.expression;
}

abbrev pub unplaced_update : Update → Update
unplaced_update update = record {
  table = unplaced_identifier update.table;
  assignments = map unplaced_assignment update.assignments;
  tests = unplaced_tests update.tests;
}

abbrev pub unplaced_set : Set → Set
unplaced_set set = record {
  variable = unplaced_identifier set.variable;
  expression = unplaced_expression unplaced_specification set.expression;
}

-- ---- scripts

abbrev pub unplaced_statement : Statement → Statement
unplaced_statement (statements.Select select) = statements.Select (unplaced_select select)
unplaced_statement (statements.Entangled entangled) = statements.Entangled (unplaced_entangled entangled)
unplaced_statement (statements.Insert insert) = statements.Insert (unplaced_insert insert)
unplaced_statement (statements.Delete delete) = statements.Delete (unplaced_delete delete)
unplaced_statement (statements.Update update) = statements.Update (unplaced_update update)
unplaced_statement (statements.Set set) = statements.Set (unplaced_set set)

abbrev pub unplaced_script : Script → Script
unplaced_script script = record {
  within = script.within;
  statements = map unplaced_statement script.statements;
  end = script.end;
}
