-- What has no places is left as it is where places are taken away.
use Rattle.std.proofs.Common.{◌≡◌, [], ◌∷◌, map, Option, None, Some, refl, ap}
use Rattle.std.specs.Option.{option_map}
use Rattle.ent_tree.specs.declared.operand.ValueSpecification.TheVariants as specifications
use Rattle.ent_tree.specs.declared.operand.Operand.TheVariants as operands
use Rattle.ent_tree.specs.declared.operand.Expression.TheVariants.{Single, Sum, Difference}
use Rattle.ent_tree.specs.declared.select.Items.TheVariants as items
use Rattle.ent_tree.specs.declared.entangled.Term.TheVariants as terms
use Rattle.ent_tree.specs.declared.entangled.Condition.TheVariants as conditions
use Rattle.ent_tree.specs.declared.script.Script.{Script}
use Rattle.ent_tree.specs.declared.script.Statement.TheVariants as statements
use Rattle.ent_tree.specs.Places.{unplaced_identifier, unplaced_specification, unplaced_operand, unplaced_column}
use Rattle.ent_tree.specs.Places.{unplaced_expression, unplaced_test, unplaced_source, unplaced_items, unplaced_tests}
use Rattle.ent_tree.specs.Places.{unplaced_select, unplaced_term, unplaced_item, unplaced_tuple, unplaced_condition}
use Rattle.ent_tree.specs.Places.{unplaced_entangled, unplaced_assignment, unplaced_statement, unplaced_script}

-- what is done once isn't done again
abbrev IsOnce : {A : Type 0} → (A → A) → Type 0
IsOnce {A = A} unplaced = (x : A) → unplaced (unplaced x) ≡ unplaced x

-- ---- lists and options

map_once : {A : Type 0} (unplaced : A → A) → IsOnce unplaced → IsOnce (map unplaced)
map_once unplaced once [] = refl
map_once unplaced once (x ∷ xs) = let first = once x in let more = map_once unplaced once xs in cc

option_once : {A : Type 0} (unplaced : A → A) → IsOnce unplaced → IsOnce (option_map unplaced)
option_once unplaced once None = refl
option_once {A = A} unplaced once (Some x) = ap (λ (y : A). let o : Option A = Some y in o) (once x)

-- ---- operands

identifier_once : IsOnce unplaced_identifier
identifier_once identifier = refl

specification_once : IsOnce unplaced_specification
specification_once (specifications.Literal literal) = refl
specification_once (specifications.HostVariable variable) = refl

column_once : IsOnce unplaced_column
column_once reference =
    let qualifier = option_once unplaced_identifier identifier_once reference.qualifier in cc

operand_once : IsOnce unplaced_operand
operand_once (operands.Value value) = let once = specification_once value in cc
operand_once (operands.Column reference) = let once = column_once reference in cc

expression_once : {A : Type 0} (unplaced : A → A) → IsOnce unplaced → IsOnce (unplaced_expression unplaced)
expression_once unplaced once (Single term) = let one = once term in cc
expression_once unplaced once (Sum left right) = let one = once left in let other = once right in cc
expression_once unplaced once (Difference left right) = let one = once left in let other = once right in cc

test_once : {A : Type 0} (unplaced : A → A) → IsOnce unplaced → IsOnce (unplaced_test unplaced)
test_once unplaced once test = let one = once test.left in let other = once test.right in cc

tests_once : IsOnce unplaced_tests
tests_once = map_once (unplaced_test unplaced_operand) (test_once unplaced_operand operand_once)

-- ---- SELECT

source_once : IsOnce unplaced_source
source_once source = let alias = option_once unplaced_identifier identifier_once source.alias in cc

items_once : IsOnce unplaced_items
items_once items.All = refl
items_once (items.Listed listed) = let once = map_once unplaced_operand operand_once listed in cc

select_once : IsOnce unplaced_select
select_once select =
    let shown = items_once select.items in
    let sources = map_once unplaced_source source_once select.sources in
    let tests = tests_once select.tests in
    cc

-- ---- entangled SELECT

term_once : IsOnce unplaced_term
term_once (terms.Value value) = let once = specification_once value in cc
term_once (terms.Variable variable) = refl

item_once : IsOnce unplaced_item
item_once item =
    let term = term_once item.term in
    let binds = option_once unplaced_identifier identifier_once item.binds in
    cc

tuple_once : IsOnce unplaced_tuple
tuple_once tuple = let once = map_once unplaced_term term_once tuple.terms in cc

condition_once : IsOnce unplaced_condition
condition_once (conditions.InSelect tuple select) =
    let one = tuple_once tuple in let other = select_once select in cc
condition_once (conditions.InAnswer tuple relation) = let one = tuple_once tuple in cc
condition_once (conditions.Test test) = let once = test_once unplaced_term term_once test in cc

entangled_once : IsOnce unplaced_entangled
entangled_once entangled =
    let shown = map_once unplaced_item item_once entangled.items in
    let relations = map_once unplaced_identifier identifier_once entangled.relations in
    let conditions = map_once unplaced_condition condition_once entangled.conditions in
    cc

-- ---- the other statements

assignment_once : IsOnce unplaced_assignment
assignment_once assignment =
    let once = expression_once unplaced_operand operand_once assignment.expression in cc

statement_once : IsOnce unplaced_statement
statement_once (statements.Select select) = let once = select_once select in cc
statement_once (statements.Entangled entangled) = let once = entangled_once entangled in cc
statement_once (statements.Insert insert) =
    let once = map_once unplaced_specification specification_once insert.values in cc
statement_once (statements.Delete delete) = let once = tests_once delete.tests in cc
statement_once (statements.Update update) =
    let one = map_once unplaced_assignment assignment_once update.assignments in
    let other = tests_once update.tests in
    cc
statement_once (statements.Set set) =
    let once = expression_once unplaced_specification specification_once set.expression in cc

pub script_once : (script : Script) → unplaced_script (unplaced_script script) ≡ unplaced_script script
script_once script = let once = map_once unplaced_statement statement_once script.statements in cc
