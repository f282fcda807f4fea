-- What a script uses and sets once values stand in the place of host variables.
use Rattle.std.proofs.Common.{◌≡◌, Bool, true, false, ◌||◌, List, [], ◌∷◌, ◌++◌, map, Option, Some, None}
use Rattle.std.proofs.Common.{refl, ap, sym, ◌∙◌}
use Rattle.std.proofs.lemmas.List.{map-append}
use Rattle.std.specs.List.{flat_map, list_any}
use Rattle.ent_lists.specs.Laws.{any_map}
use Rattle.ent_value.specs.declared.value.Value.{Value}
use Rattle.ent_tree.specs.declared.operand.ValueSpecification.{ValueSpecification}
use Rattle.ent_tree.specs.declared.operand.ValueSpecification.TheVariants as specifications
use Rattle.ent_tree.specs.declared.operand.Operand.{Operand}
use Rattle.ent_tree.specs.declared.operand.Operand.TheVariants as operands
use Rattle.ent_tree.specs.declared.operand.Expression.{Expression}
use Rattle.ent_tree.specs.declared.operand.Expression.TheVariants.{Single, Sum, Difference}
use Rattle.ent_tree.specs.declared.operand.Identifier.{Identifier}
use Rattle.ent_tree.specs.declared.operand.Test.{Test}
use Rattle.ent_tree.specs.declared.select.Items.{Items}
use Rattle.ent_tree.specs.declared.select.Items.TheVariants as items
use Rattle.ent_tree.specs.declared.select.Select.{Select}
use Rattle.ent_tree.specs.declared.entangled.Term.{Term}
use Rattle.ent_tree.specs.declared.entangled.Term.TheVariants as terms
use Rattle.ent_tree.specs.declared.entangled.Tuple.{Tuple}
use Rattle.ent_tree.specs.declared.entangled.Condition.{Condition}
use Rattle.ent_tree.specs.declared.entangled.Condition.TheVariants as conditions
use Rattle.ent_tree.specs.declared.script.Statement.{Statement}
use Rattle.ent_tree.specs.declared.script.Statement.TheVariants as statements
use Rattle.ent_tree.specs.declared.script.Script.{Script}
use Rattle.ent_semantics.specs.Database.{Name, same_name, is_among}
use Rattle.ent_semantics.specs.Names.{equal_names}
use Rattle.ent_bound.specs.Bound.{bound_script, bound_value, literal_or, value_bound}
use Rattle.ent_bound.specs.Over.{Making, operand_over, expression_over, test_over, items_over, tests_over, select_over}
use Rattle.ent_bound.specs.Over.{term_over, item_over, tuple_over, condition_over, assignment_over}
use Rattle.ent_bound.specs.Over.{statement_over, script_over}
use Rattle.ent_bound.specs.Values.{Values, operand_values, expression_values, test_values, items_values, tests_values}
use Rattle.ent_bound.specs.Values.{select_values, term_values, item_values, tuple_values, condition_values}
use Rattle.ent_bound.specs.Values.{assignment_values, statement_values, script_values}
use Rattle.ent_bound.specs.Values.{is_variable, is_used, item_sets, statement_sets, is_set}
use Rattle.ent_bound.specs.declared.variable.BoundVariable.{BoundVariable}

-- ---- the values of what is made are those that are made, one for one

-- what holds of two lists holds of both, one behind the other
joined : (f : Making) (xs ys : Values) {xs' ys' : Values} → xs' ≡ map f xs → ys' ≡ map f ys
    → xs' ++ ys' ≡ map f (xs ++ ys)
joined f xs ys first second = (λ i. first i ++ second i) ∙ sym (map-append f xs ys)

-- what holds of each part holds of a list of them
each : {A : Type 0} (f : Making) (over : A → A) (values : A → Values)
    → ((x : A) → values (over x) ≡ map f (values x))
    → (xs : List A) → flat_map values (map over xs) ≡ map f (flat_map values xs)
each f over values part [] = refl
each f over values part (x ∷ xs) = joined f (values x) (flat_map values xs) (part x) (each f over values part xs)

operand : (f : Making) (x : Operand) → operand_values (operand_over f x) ≡ map f (operand_values x)
operand f (operands.Value value) = refl
operand f (operands.Column reference) = refl

expression : {A : Type 0} (f : Making) (over : A → A) (values : A → Values)
    → ((x : A) → values (over x) ≡ map f (values x))
    → (x : Expression A) → expression_values values (expression_over over x) ≡ map f (expression_values values x)
expression f over values part (Single x) = part x
expression f over values part (Sum left right) = joined f (values left) (values right) (part left) (part right)
expression f over values part (Difference left right) =
    joined f (values left) (values right) (part left) (part right)

test : {A : Type 0} (f : Making) (over : A → A) (values : A → Values)
    → ((x : A) → values (over x) ≡ map f (values x))
    → (x : Test A) → test_values values (test_over over x) ≡ map f (test_values values x)
test f over values part x = joined f (values x.left) (values x.right) (part x.left) (part x.right)

tests : (f : Making) (xs : List (Test Operand)) → tests_values (tests_over f xs) ≡ map f (tests_values xs)
tests f =
    each f (test_over (operand_over f)) (test_values operand_values)
    (test f (operand_over f) operand_values (operand f))

listed : (f : Making) (x : Items) → items_values (items_over f x) ≡ map f (items_values x)
listed f items.All = refl
listed f (items.Listed xs) = each f (operand_over f) operand_values (operand f) xs

select : (f : Making) (x : Select) → select_values (select_over f x) ≡ map f (select_values x)
select f x = joined f (items_values x.items) (tests_values x.tests) (listed f x.items) (tests f x.tests)

term : (f : Making) (x : Term) → term_values (term_over f x) ≡ map f (term_values x)
term f (terms.Value value) = refl
term f (terms.Variable variable) = refl

tuple : (f : Making) (x : Tuple) → tuple_values (tuple_over f x) ≡ map f (tuple_values x)
tuple f x = each f (term_over f) term_values (term f) x.terms

condition : (f : Making) (x : Condition) → condition_values (condition_over f x) ≡ map f (condition_values x)
condition f (conditions.InSelect x inner) =
    joined f (tuple_values x) (select_values inner) (tuple f x) (select f inner)
condition f (conditions.InAnswer x relation) = tuple f x
condition f (conditions.Test x) = test f (term_over f) term_values (term f) x

statement : (f : Making) (x : Statement) → statement_values (statement_over f x) ≡ map f (statement_values x)
statement f (statements.Select x) = select f x
statement f (statements.Entangled x) =
    joined f (flat_map item_values x.items) (flat_map condition_values x.conditions)
    (each f (item_over f) item_values (λ item. term f item.term) x.items)
    (each f (condition_over f) condition_values (condition f) x.conditions)
statement f (statements.Insert x) = refl
statement f (statements.Delete x) = tests f x.tests
statement f (statements.Update x) =
    joined f (flat_map assignment_values x.assignments) (tests_values x.tests)
    (each f (assignment_over f) assignment_values
    (λ assignment. expression f (operand_over f) operand_values (operand f) assignment.expression) x.assignments)
    (tests f x.tests)
statement f (statements.Set x) = expression f f (λ value. value ∷ []) (λ value. refl) x.expression

pub script : (f : Making) (x : Script) → script_values (script_over f x) ≡ map f (script_values x)
script f x = each f (statement_over f) statement_values (statement f) x.statements

-- ---- what is used

used : (variables : List BoundVariable) (x : Script) (name : Name)
    → is_used (bound_script variables x) name
    ≡ list_any (λ value. is_variable name (bound_value variables value)) (script_values x)
used variables x name =
    ap (list_any (is_variable name)) (script (bound_value variables) x)
    ∙ any_map (is_variable name) (bound_value variables) (script_values x)

-- a host variable of this name stays one where nothing is bound to it, and becomes a literal where something is
replaced : (variables : List BoundVariable) (name : Name) (identifier : Identifier) (found : Option Value)
    → value_bound variables identifier.name ≡ found → (value : Value) → value_bound variables name ≡ Some value
    → (t : Bool) → same_name identifier.name name ≡ t → is_variable name (literal_or identifier found) ≡ false
replaced variables name identifier (Some other) is value bound t same = refl
replaced variables name identifier None is value bound false same = same
replaced variables name identifier None is value bound true same =
    let e : value_bound variables identifier.name ≡ value_bound variables name =
    ap (value_bound variables) (equal_names identifier.name name same) in cc

no_variable : (variables : List BoundVariable) (name : Name) (value : Value) → value_bound variables name ≡ Some value
    → (x : ValueSpecification) → is_variable name (bound_value variables x) ≡ false
no_variable variables name value bound (specifications.Literal literal) = refl
no_variable variables name value bound (specifications.HostVariable identifier) =
    replaced variables name identifier (value_bound variables identifier.name) refl value bound
    (same_name identifier.name name) refl

none_of : {A : Type 0} (p : A → Bool) → ((x : A) → p x ≡ false) → (xs : List A) → list_any p xs ≡ false
none_of p none [] = refl
none_of p none (x ∷ xs) = ap (λ b. b || list_any p xs) (none x) ∙ none_of p none xs

pub bound_is_unused : (variables : List BoundVariable) (x : Script) (name : Name) (value : Value)
    → value_bound variables name ≡ Some value → is_used (bound_script variables x) name ≡ false
bound_is_unused variables x name value bound =
    used variables x name
    ∙ none_of (λ v. is_variable name (bound_value variables v)) (no_variable variables name value bound)
    (script_values x)

kept : (variables : List BoundVariable) (name : Name) (identifier : Identifier) (found : Option Value)
    → value_bound variables identifier.name ≡ found → value_bound variables name ≡ None
    → (t : Bool) → same_name identifier.name name ≡ t
    → is_variable name (literal_or identifier found) ≡ same_name identifier.name name
kept variables name identifier None is bound t same = refl
kept variables name identifier (Some other) is bound false same = sym same
kept variables name identifier (Some other) is bound true same =
    let e : value_bound variables identifier.name ≡ value_bound variables name =
    ap (value_bound variables) (equal_names identifier.name name same) in cc

same_variable : (variables : List BoundVariable) (name : Name) → value_bound variables name ≡ None
    → (x : ValueSpecification) → is_variable name (bound_value variables x) ≡ is_variable name x
same_variable variables name bound (specifications.Literal literal) = refl
same_variable variables name bound (specifications.HostVariable identifier) =
    kept variables name identifier (value_bound variables identifier.name) refl bound
    (same_name identifier.name name) refl

pub others_are_used : (variables : List BoundVariable) (x : Script) (name : Name) → value_bound variables name ≡ None
    → is_used (bound_script variables x) name ≡ is_used x name
others_are_used variables x name bound =
    used variables x name
    ∙ ap (λ (p : ValueSpecification → Bool). list_any p (script_values x))
    (λ i value. same_variable variables name bound value i)

-- ---- what is set

sets_mapped : {A : Type 0} (over : A → A) (sets : A → List Name) → ((x : A) → sets (over x) ≡ sets x)
    → (xs : List A) → flat_map sets (map over xs) ≡ flat_map sets xs
sets_mapped over sets part [] = refl
sets_mapped over sets part (x ∷ xs) = λ i. part x i ++ sets_mapped over sets part xs i

statement_set : (f : Making) (x : Statement) → statement_sets (statement_over f x) ≡ statement_sets x
statement_set f (statements.Select x) = refl
statement_set f (statements.Entangled x) = sets_mapped (item_over f) item_sets (λ item. refl) x.items
statement_set f (statements.Insert x) = refl
statement_set f (statements.Delete x) = refl
statement_set f (statements.Update x) = refl
statement_set f (statements.Set x) = refl

pub as_much_is_set : (variables : List BoundVariable) (x : Script) (name : Name)
    → is_set (bound_script variables x) name ≡ is_set x name
as_much_is_set variables x name =
    ap (λ (names : List Name). is_among names name)
    (sets_mapped (statement_over (bound_value variables)) statement_sets (statement_set (bound_value variables))
    x.statements)
